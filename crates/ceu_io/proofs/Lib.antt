pub mod Telling
pub mod Offers
pub mod Shelving
pub mod Written
