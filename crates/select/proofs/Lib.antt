pub mod Ranks
pub mod Walks
