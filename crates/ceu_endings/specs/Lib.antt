pub mod Counted
pub mod OneTrail
pub mod Laws
pub mod Ends
