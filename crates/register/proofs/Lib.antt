pub mod Calls
pub mod Times
pub mod Three
pub mod Holds
pub mod Outcomes
pub mod Unique
pub mod Afternoon
pub mod Examples
