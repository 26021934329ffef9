pub mod NodeRows
pub mod WindowRows
pub mod Sheets
pub mod SheetRoom
