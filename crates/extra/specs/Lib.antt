pub mod Unpitched
pub mod Split
pub mod Merging
pub mod Seconds
pub mod Passing
pub mod Extra
