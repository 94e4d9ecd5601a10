pub mod Sounds
pub mod Rules
pub mod Text
pub mod Steps
pub mod Back
pub mod Found
