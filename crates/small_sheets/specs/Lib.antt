pub mod Parts
pub mod Chosen
