pub mod Typing
pub mod Ranks
pub mod Places
pub mod Notes
pub mod Uses
pub mod Expressions
pub mod Around
pub mod Statements
