pub mod Minimal
pub mod Pigeons
pub mod Chains
pub mod Layers
pub mod Sperner
pub mod Ways
