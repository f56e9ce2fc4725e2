pub mod Marking
pub mod Pitches
pub mod Demand3
