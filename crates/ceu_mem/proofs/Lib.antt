pub mod Views
pub mod Gates
