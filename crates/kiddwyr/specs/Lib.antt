pub mod Records
pub mod Copied
