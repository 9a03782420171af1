pub mod Forms
pub mod Keys
pub mod Parts
