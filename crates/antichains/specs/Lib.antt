pub mod Antichains
