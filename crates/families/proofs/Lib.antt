pub mod Families
pub mod Masks
pub mod Steps
pub mod Exact
pub mod Turns
