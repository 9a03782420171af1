pub mod Inner
pub mod Rest
pub mod Whole
