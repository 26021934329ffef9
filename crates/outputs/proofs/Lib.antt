pub mod MarkLaws
pub mod Marking
