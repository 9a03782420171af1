pub mod Scores
pub mod Answers
pub mod Inner
