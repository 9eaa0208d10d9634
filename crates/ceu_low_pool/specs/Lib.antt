pub mod Conditions
pub mod Lists
