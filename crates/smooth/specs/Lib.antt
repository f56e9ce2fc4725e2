pub mod Level
pub mod Extrema
pub mod Offered
