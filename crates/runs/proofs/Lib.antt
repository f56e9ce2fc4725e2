pub mod Pushing
pub mod Spacing
pub mod Walking
pub mod Syllabic
pub mod Nearest
