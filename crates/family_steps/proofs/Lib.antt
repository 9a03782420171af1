pub mod Spreading
pub mod Steps
