pub mod Inner
pub mod Portal
