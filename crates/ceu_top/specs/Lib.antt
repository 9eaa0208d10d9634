pub mod Command
pub mod Lines
pub mod Fetching
pub mod Outcomes
pub mod Answering
pub mod Left
