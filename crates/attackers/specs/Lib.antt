pub mod Attackers
pub mod Answers
pub mod Inner
