pub mod Answers
pub mod Findings
