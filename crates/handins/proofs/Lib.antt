pub mod Buffers
pub mod SetCalls
pub mod LineCalls
