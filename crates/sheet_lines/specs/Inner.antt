pub mod Span
pub mod Keys
