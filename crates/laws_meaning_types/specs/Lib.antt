pub mod Ready
pub mod Stores
pub mod Cells
pub mod Laws
