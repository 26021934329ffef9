pub mod WroteLaws
pub mod Spelled
