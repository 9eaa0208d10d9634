pub mod Copies
pub mod CopiesLaws
pub mod ReachesLaws
pub mod Standing
pub mod StandingLaws
