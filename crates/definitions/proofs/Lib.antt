pub mod RowLaws
pub mod Keeping
pub mod Lawful
