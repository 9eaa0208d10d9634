pub mod Ports
pub mod Above
pub mod VisibleLaws
pub mod Sees
pub mod SeenLaws
