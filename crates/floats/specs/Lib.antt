pub mod Narrow
pub mod Total
pub mod Plain
pub mod Sizes
pub mod Ratio
