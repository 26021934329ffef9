pub mod Plain
pub mod Former
pub mod Rewritten
pub mod FormerCases
