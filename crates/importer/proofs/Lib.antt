pub mod SheetLaws
pub mod Calls
pub mod CallerLaws
