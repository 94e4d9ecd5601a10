pub mod Walks
pub mod Whole
pub mod Answers
pub mod Laws
