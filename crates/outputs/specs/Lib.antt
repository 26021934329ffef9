pub mod ByWord
pub mod Marks
