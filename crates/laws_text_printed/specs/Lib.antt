pub mod ReadingWords
pub mod Expressions
pub mod Statements
pub mod Places
pub mod Spelled
pub mod SpellingWords
pub mod Kinds
pub mod Again
