pub mod CoverMarks
pub mod CoverCut
pub mod CoverTurn
