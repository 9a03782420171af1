pub mod Facts
pub mod Figures
pub mod Parts
pub mod Places
pub mod Sets
