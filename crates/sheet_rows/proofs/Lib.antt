pub mod Asks
pub mod Items
pub mod Tables
pub mod Taking
