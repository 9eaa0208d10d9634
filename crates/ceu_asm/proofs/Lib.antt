pub mod Numbering
pub mod Filling
pub mod Following
pub mod Tabled
pub mod Cells
