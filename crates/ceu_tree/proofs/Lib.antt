pub mod Sizes
pub mod CutLaws
pub mod TableLaws
pub mod Depths
pub mod NeedLaws
pub mod GateLaws
pub mod PathLaws
pub mod CalmLaws
pub mod WaitLaws
pub mod EnterLaws
pub mod StayLaws
pub mod WokenLaws
pub mod UseLaws
pub mod WeightLaws
pub mod Build
mod Rows
mod RowsFinal
mod RowsTime
mod RowsMore
mod RowsLamp
