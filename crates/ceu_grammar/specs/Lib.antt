pub mod Levels
pub mod Moves
pub mod Spelling
pub mod Answers
