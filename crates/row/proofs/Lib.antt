pub mod Stand
pub mod Alignment
pub mod Joined
pub mod Open
pub mod ByColumn
pub mod Heights
pub mod Props
