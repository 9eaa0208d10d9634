pub mod Finalizers
pub mod Steps
pub mod Order
pub mod AbortOrder
pub mod Shape
pub mod Laws
