pub mod Estimates
pub mod Held
pub mod Recovered
