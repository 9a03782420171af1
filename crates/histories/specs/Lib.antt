pub mod Histories
pub mod Requests
pub mod NoHeed
pub mod Drawings
