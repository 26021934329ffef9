pub mod Lookup
pub mod Bound
pub mod Going
pub mod Sought
