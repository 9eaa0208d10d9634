pub mod Layout
pub mod Law
pub mod Plans
