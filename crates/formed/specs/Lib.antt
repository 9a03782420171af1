pub mod WellFormed
pub mod Inner
