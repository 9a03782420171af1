pub mod Lines
pub mod NameKeys
