pub mod Shaped
pub mod Events
pub mod Sizes
pub mod ProperLaws
pub mod Exits
pub mod ExitsLaws
