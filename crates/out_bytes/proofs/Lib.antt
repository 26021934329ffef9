pub mod Putting
pub mod HandingOver
