pub mod Cells
pub mod Table
pub mod Code
