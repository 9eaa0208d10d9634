pub mod Fits
pub mod There
pub mod Laws
pub mod Sizes
