pub mod Searches
pub mod Ways
