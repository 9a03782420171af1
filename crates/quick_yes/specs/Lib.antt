pub mod Answers
pub mod Agrees
