pub mod Voiceless
pub mod Cuts
pub mod Anchoring
pub mod Holding
pub mod Edging
pub mod Whole
pub mod Rows
pub mod Promises
