pub mod Held
pub mod Kinds
pub mod Declared
pub mod Names
pub mod Typed
pub mod Laws
