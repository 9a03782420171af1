pub mod Base
pub mod Marks
pub mod Score
pub mod Inner
