pub mod Alignment
pub mod View
pub mod Pending
pub mod Open
pub mod Height
pub mod Visible
