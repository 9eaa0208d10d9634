pub mod Lines
pub mod Places
pub mod Pages
pub mod Fetch
pub mod Tables
pub mod Whole
