pub mod Lists
pub mod LoopLaws
pub mod EmitLaws
pub mod UseLists
pub mod WayLaws
pub mod PoolLaws
pub mod TurnLaws
pub mod CapLaws
