pub mod Each
pub mod Gates
pub mod Seen
pub mod Occurrences
pub mod Plug
pub mod Unplug
