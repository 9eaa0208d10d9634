pub mod Many
pub mod Arms
pub mod Conditions
pub mod Starts
pub mod Ends
