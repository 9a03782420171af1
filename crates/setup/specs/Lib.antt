pub mod Bounds
pub mod Calls
pub mod Inner
pub mod Setup
