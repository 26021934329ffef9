pub mod Turns
pub mod Cycles
pub mod Boxes
pub mod Readings
pub mod After
