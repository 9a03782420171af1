pub mod Finding
pub mod Bounds
pub mod Unique
