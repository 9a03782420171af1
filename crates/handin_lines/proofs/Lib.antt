pub mod Splitting
pub mod Naming
pub mod SetFields
pub mod Shapes
pub mod Fields
pub mod Entering
