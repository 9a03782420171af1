pub mod Passes
pub mod Sizes
pub mod Outsiders
pub mod Values
