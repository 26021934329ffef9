pub mod Rows
pub mod Kept
