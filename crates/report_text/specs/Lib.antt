pub mod Rows
pub mod Report
pub mod Inner
pub mod Meaning
pub mod Unmixed
