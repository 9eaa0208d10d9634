pub mod Marking
pub mod Rounds
pub mod Coming
pub mod Changes
pub mod Sessions
