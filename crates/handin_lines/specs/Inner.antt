pub mod Splitting
pub mod Naming
pub mod Sets
pub mod Lines
pub mod Tasks
