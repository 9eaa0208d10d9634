pub mod Leaves
pub mod Targets
pub mod Fitting
pub mod Following
pub mod External
pub mod Deriving
pub mod Placing
pub mod Whole
