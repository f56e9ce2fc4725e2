pub mod PowerLaws
pub mod LimbLaws
pub mod UnitLaws
pub mod Never
pub mod Order
pub mod Ranges
pub mod Repaired
