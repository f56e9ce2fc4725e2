pub mod Fields
pub mod File
pub mod Text
pub mod Listing
