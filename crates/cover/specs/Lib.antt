pub mod Cover
pub mod Covering
