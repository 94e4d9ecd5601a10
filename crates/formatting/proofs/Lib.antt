pub mod Area
pub mod Line
pub mod Stand
pub mod Whole
pub mod Heights
pub mod Parts
pub mod RowText
pub mod Shown
