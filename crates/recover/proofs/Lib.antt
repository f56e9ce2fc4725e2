pub mod Held
pub mod Finding
pub mod Trying
pub mod Walking
pub mod Settling
pub mod Kept
pub mod Islands
pub mod Scaled
