pub mod Rank
pub mod Quiet
pub mod Frames
pub mod Spans
