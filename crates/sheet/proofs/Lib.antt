pub mod Fields
pub mod Loops
pub mod Sections
pub mod Pairs
pub mod Cases
pub mod Laws
