pub mod Thresholds
pub mod Scores
pub mod Finding
pub mod Theorems
pub mod Calls
pub mod Unique
pub mod Computed
