pub mod Targets
pub mod Asyncs
pub mod Adding
pub mod Bytes
