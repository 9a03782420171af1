pub mod Sheets
pub mod Calls
pub mod HandIns
pub mod Demands
