pub mod Held
pub mod Copies
pub mod Walks
pub mod Heads
pub mod Rest
pub mod Passes
