pub mod Ranging
pub mod RangeTurns
pub mod Bounds
pub mod RangeSlots
pub mod RangeHeads
pub mod RangeStarts
