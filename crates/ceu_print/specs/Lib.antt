pub mod Words
pub mod Lists
pub mod Expressions
pub mod Statements
