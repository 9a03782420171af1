pub mod Admits
pub mod Both
pub mod Closures
pub mod Graphs
pub mod Passes
pub mod Rules
pub mod Way
