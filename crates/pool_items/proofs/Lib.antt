pub mod NameRows
pub mod Items
