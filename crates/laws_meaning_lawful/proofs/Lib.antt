pub mod Quiet
pub mod Unfailed
pub mod Trees
pub mod Lawful
