pub mod Sheets
pub mod Calls
pub mod HandIns
pub mod ForC
pub mod Demands
