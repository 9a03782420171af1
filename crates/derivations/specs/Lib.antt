pub mod Access
pub mod Both
pub mod Derivation
pub mod Lockout
pub mod Passes
pub mod Way
pub mod Inner
