pub mod Entering
pub mod Refused
