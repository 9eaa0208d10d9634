pub mod Pools
pub mod Conditions
pub mod Rooms
pub mod Lists
pub mod Kinds
pub mod Images
