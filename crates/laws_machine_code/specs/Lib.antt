pub mod Fetches
pub mod Placed
pub mod Does
pub mod Seen
pub mod Laws
