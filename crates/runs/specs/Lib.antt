pub mod Runs
pub mod Syllables
pub mod Near
pub mod Ahead
