pub mod Weights
pub mod Tables
