pub mod ReadyBounds
pub mod Horizons
pub mod Entries
