pub mod Conditions
pub mod Bounds
