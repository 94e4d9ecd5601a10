pub mod Among
pub mod Measures
pub mod Opening
