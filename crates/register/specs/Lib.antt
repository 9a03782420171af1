pub mod Calls
pub mod Afternoon
