pub mod Tables
pub mod Reversed
pub mod Laws
pub mod Each
pub mod ExpLaws
pub mod StmtLaws
pub mod Sizes
