pub mod Omitting
pub mod Unwindowed
pub mod Rewriting
