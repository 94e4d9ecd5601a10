pub mod Lengths
pub mod Opened
pub mod Opening
