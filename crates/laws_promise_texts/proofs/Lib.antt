pub mod Made
pub mod Programs
pub mod Whole
pub mod Texts
