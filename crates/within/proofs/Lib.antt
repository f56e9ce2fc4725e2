pub mod Chained
pub mod Rooms
