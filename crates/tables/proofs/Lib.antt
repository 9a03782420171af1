pub mod Sweeps
pub mod Parts
pub mod Starts
pub mod Settling
pub mod Extending
pub mod Blocks
pub mod Tables
