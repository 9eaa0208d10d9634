pub mod Running
pub mod Reached
pub mod Ready
pub mod Premises
pub mod Live
pub mod Laws
