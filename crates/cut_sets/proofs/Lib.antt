pub mod Turning
pub mod Sets
pub mod Duality
pub mod Bounds
pub mod Theorems
pub mod Families
pub mod Calls
pub mod Computed
