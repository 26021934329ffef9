pub mod Walk
pub mod Looks
pub mod Part
pub mod Room
mod LookCases
