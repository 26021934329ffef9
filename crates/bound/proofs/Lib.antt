pub mod Arriving
pub mod Asking
pub mod Safety
pub mod Bounds
pub mod Placing
