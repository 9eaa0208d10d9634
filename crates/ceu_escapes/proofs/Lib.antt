pub mod Targets
pub mod Escapes
pub mod Found
pub mod Values
pub mod BodyEscapes
pub mod ValueEscapes
