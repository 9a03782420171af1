pub mod Filling
pub mod Front
pub mod Saying
pub mod Strict
pub mod Writing
