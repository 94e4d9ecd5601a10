pub mod Limits
pub mod Share
