pub mod Keeping
pub mod Taken
pub mod Joints
pub mod Edges
pub mod Minima
pub mod Boundaries
pub mod Promises
