pub mod Widths
pub mod Sizes
pub mod ExpForms
pub mod Labels
pub mod Parameters
pub mod Arguments
pub mod StmtSizes
pub mod StmtForms
