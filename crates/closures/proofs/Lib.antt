pub mod Colours
pub mod Passes
