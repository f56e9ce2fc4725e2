pub mod Merge
pub mod Steps
pub mod Choice
pub mod Whole
pub mod Pitched
pub mod Promises
pub mod Turns
