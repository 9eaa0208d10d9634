pub mod TurnsLaws
pub mod Marked
pub mod MarkedLaws
