pub mod Sets
pub mod Lines
pub mod ReadBack
pub mod Afternoon
pub mod Marks
pub mod Unique
pub mod Examples
