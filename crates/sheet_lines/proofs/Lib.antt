pub mod Refusing
pub mod Texts
pub mod Reading
pub mod Starts
pub mod Lines
pub mod Keys
pub mod Accepted
