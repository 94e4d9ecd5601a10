pub mod Arrange
pub mod Describes
pub mod Widths
pub mod Courses
