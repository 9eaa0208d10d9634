pub mod Draft
pub mod Lists
pub mod Uses
pub mod Expressions
pub mod Parts
pub mod Expansion
