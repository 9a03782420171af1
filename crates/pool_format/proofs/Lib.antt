pub mod Examples
pub mod Colours
pub mod Recolouring
pub mod PooledRows
pub mod Opening
pub mod Meaning
