pub mod Multisets
pub mod Meaning
pub mod Inner
