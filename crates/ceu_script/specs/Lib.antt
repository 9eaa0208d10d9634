pub mod Content
pub mod Shapes
pub mod Reader
pub mod Lines
pub mod Bytewise
pub mod Commands
pub mod Places
