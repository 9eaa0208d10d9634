pub mod Entries
pub mod Shown
pub mod Walk
pub mod Rules
pub mod Names
pub mod Parts
pub mod Answers
