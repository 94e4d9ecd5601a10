pub mod Area
pub mod Line
pub mod Part
pub mod Stand
pub mod RowText
pub mod Shown
