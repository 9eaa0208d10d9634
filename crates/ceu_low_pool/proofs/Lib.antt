pub mod Pools
pub mod Adding
