pub mod Values
pub mod First
pub mod Numbers
pub mod Refusals
