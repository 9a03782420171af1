pub mod Asks
pub mod Contract
pub mod Questions
pub mod Told
pub mod Refusals
pub mod Inner
