pub mod Merging
pub mod Peaks
pub mod Tops
pub mod Nuclei
