pub mod Text
pub mod Fields
pub mod Rows
pub mod Questions
pub mod Read
pub mod Stated
pub mod Meaning
pub mod Names
