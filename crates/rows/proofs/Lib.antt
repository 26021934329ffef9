pub mod Cells
pub mod StoredRows
pub mod Stores
pub mod StoredWindows
pub mod SheetTables
