pub mod Question
pub mod Quick
