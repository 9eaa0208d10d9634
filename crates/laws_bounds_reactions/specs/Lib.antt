pub mod Steady
pub mod Bounded
pub mod Laws
