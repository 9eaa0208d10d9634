pub mod Build
pub mod Rows
pub mod RowsCode
pub mod RowsTime
