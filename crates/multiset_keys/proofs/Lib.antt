pub mod Lanes
pub mod Sums
pub mod Maps
