pub mod Kept
pub mod Turns
pub mod Reactions
pub mod Laws
