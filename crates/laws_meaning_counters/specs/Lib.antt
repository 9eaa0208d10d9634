pub mod Counters
pub mod Ints
pub mod Laws
pub mod Ranges
