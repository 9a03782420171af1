pub mod Pairs
pub mod Parts
pub mod Rows
pub mod Slots
