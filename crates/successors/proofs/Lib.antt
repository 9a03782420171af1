pub mod Members
pub mod Needs
