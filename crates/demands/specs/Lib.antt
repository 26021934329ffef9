pub mod Demands
pub mod Bounds
pub mod Keeping
pub mod Windows
pub mod Reading
pub mod Answers
pub mod Stores
pub mod Imports
