pub mod RowLaws
pub mod Texts
pub mod Numbers
pub mod ShowLaws
