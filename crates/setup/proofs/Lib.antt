pub mod Counts
pub mod Graphs
pub mod KindNumbers
pub mod OneRow
pub mod Recovery
