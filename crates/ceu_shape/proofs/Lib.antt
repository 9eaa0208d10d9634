pub mod Build
pub mod Rows
pub mod Adding
pub mod Expressed
pub mod Short
