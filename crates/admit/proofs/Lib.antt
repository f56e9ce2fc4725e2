pub mod Ranges
pub mod Every
pub mod First
pub mod Admitted
pub mod Numbered
