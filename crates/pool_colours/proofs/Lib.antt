pub mod Renaming
pub mod Edges
