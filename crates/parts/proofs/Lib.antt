pub mod Parts
pub mod Measures
pub mod Bands
