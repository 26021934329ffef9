pub mod RowLaws
pub mod WindowLaws
