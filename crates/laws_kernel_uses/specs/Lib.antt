pub mod Named
pub mod NamedLaws
pub mod Settled
pub mod SettledLaws
