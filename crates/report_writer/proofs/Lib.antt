pub mod Filling
pub mod Lists
pub mod Names
pub mod Rest
pub mod Stepping
pub mod Whole
