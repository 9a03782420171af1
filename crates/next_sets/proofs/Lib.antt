pub mod Order
pub mod Finding
pub mod Unique
pub mod Walks
pub mod Changes
