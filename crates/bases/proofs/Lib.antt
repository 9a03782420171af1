pub mod Bridge
pub mod Formed
pub mod FullMarks
pub mod Readers
pub mod Scores
