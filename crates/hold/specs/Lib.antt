pub mod Mark
pub mod Turn
