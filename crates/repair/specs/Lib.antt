pub mod Repair
pub mod Places
