pub mod Answers
pub mod Measured
pub mod Reasoned
