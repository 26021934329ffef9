pub mod TurnNode
pub mod Turns
