pub mod Times
pub mod Typed
pub mod Laws
