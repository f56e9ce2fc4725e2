pub mod Limbs
pub mod Pitch
