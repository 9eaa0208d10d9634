pub mod Answering
pub mod Statuses
pub mod Clauses
pub mod Lining
pub mod Limits
pub mod Compiling
pub mod Leaving
