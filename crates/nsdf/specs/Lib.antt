pub mod Nsdf
pub mod Running
pub mod Period
