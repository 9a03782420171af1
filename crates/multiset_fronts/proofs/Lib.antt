pub mod Lists
pub mod Pairs
pub mod Dropping
pub mod Front
pub mod Keeping
