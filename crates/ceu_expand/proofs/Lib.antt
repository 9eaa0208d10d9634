pub mod Labels
pub mod Lists
pub mod ExpForms
pub mod Sizes
pub mod Forms
