pub mod Runs
pub mod Reaching
pub mod Heed
pub mod Once
pub mod Drawings
