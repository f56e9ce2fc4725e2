pub mod Writing
pub mod Numbers
pub mod Records
pub mod Agreement
pub mod Lines
pub mod Sizes
pub mod Cases
