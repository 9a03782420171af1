pub mod Living
pub mod Inner
