pub mod Adding
pub mod Spreading
pub mod Cells
pub mod Turns
pub mod Jointly
pub mod Whole
pub mod Promise
