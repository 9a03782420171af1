pub mod Exact
pub mod Family
pub mod Masks
pub mod Steps
