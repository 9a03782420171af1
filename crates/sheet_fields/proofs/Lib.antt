pub mod Cutting
pub mod Scans
pub mod Numbers
pub mod Names
pub mod Packing
pub mod Forms
pub mod Slices
pub mod Lines
