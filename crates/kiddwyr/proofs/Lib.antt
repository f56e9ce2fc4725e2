pub mod Chained
pub mod Demand3
pub mod Filling
pub mod Given
pub mod Wrapped
