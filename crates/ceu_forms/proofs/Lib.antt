pub mod FormLaws
pub mod Same
mod Gates
