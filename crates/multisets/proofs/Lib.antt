pub mod Counts
pub mod Pairs
pub mod Arranged
pub mod Meaning
pub mod Sets
