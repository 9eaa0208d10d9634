pub mod Serving
pub mod Settling
pub mod Paying
pub mod Ending
pub mod Bounded
pub mod Runs
