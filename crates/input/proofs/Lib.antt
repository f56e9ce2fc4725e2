pub mod Adding
pub mod Bringing
