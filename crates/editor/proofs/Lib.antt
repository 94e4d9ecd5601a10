pub mod Taking
pub mod Entering
pub mod Fields
pub mod Texts
pub mod Laws
