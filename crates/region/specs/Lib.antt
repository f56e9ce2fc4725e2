pub mod Defaults
pub mod Percentile
pub mod Speech
