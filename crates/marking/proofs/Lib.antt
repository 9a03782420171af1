pub mod Seeing
pub mod Tallies
