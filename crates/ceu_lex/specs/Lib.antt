pub mod Bytes
pub mod Gaps
pub mod Positions
pub mod Tables
pub mod Lexemes
pub mod Texts
