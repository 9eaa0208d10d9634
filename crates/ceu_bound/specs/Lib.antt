pub mod Parts
pub mod Measured
pub mod Graph
pub mod PhaseB
pub mod Waking
pub mod Using
pub mod Verdict
pub mod Filled
