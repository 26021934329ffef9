pub mod CutRows
pub mod CutTests
pub mod LevelCodes
pub mod LevelSpan
pub mod LevelLabel
pub mod Numbers
