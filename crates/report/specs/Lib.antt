pub mod Shown
pub mod Answered
