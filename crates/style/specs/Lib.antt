pub mod Bytes
pub mod Column
pub mod Front
pub mod Table
