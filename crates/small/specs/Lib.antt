pub mod Family
pub mod Listing
pub mod Promise
pub mod Examples
