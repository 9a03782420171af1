pub mod Edges
pub mod Facts
pub mod Holding
pub mod Vertices
pub mod Whole
