pub mod Inner
pub mod Order
pub mod Set
