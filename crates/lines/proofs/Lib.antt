pub mod Walks
pub mod Longest
