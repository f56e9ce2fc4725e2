pub mod Averages
pub mod Order
pub mod Best
pub mod Stretches
pub mod Bounds
