pub mod Put
pub mod Outcome
