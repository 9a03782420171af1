pub mod Sheets
pub mod Texts
pub mod Plans
pub mod Calls
