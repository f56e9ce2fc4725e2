pub mod Frames
pub mod Results
pub mod By
pub mod Sorted
pub mod Marks
pub mod Stack
pub mod Candidates
pub mod Grouped
