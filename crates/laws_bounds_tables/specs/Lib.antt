pub mod Below
pub mod TablesLaws
pub mod Exits
pub mod KeptLaws
