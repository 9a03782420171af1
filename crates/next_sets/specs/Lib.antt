pub mod Next
pub mod Answers
pub mod Walks
