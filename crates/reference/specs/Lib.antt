pub mod Bases
pub mod Closures
pub mod Graphs
pub mod Meaning
pub mod Tests
