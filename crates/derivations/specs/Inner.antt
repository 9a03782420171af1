pub mod Admits
pub mod Laws
