pub mod Needed
pub mod Slots
pub mod Outer
pub mod Laws
