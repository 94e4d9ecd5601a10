pub mod Knowns
pub mod Trials
pub mod Tries
