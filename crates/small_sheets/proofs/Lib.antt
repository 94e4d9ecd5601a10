pub mod Choices
pub mod Tables
pub mod Bytes
pub mod Promised
pub mod Numbers
pub mod Puts
pub mod Answers
