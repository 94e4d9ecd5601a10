pub mod Held
pub mod Walk
pub mod Step
pub mod Pass
pub mod Examples
