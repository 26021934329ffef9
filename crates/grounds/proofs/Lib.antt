pub mod KeepLaws
pub mod TableLaws
pub mod LineTests
pub mod WordLaws
