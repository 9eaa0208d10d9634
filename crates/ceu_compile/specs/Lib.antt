pub mod Errors
pub mod Resolved
pub mod Sizes
pub mod Trees
pub mod Programs
pub mod Images
