pub mod Ahead
pub mod Band
pub mod Part
