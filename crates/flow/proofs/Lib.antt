pub mod Bools
pub mod Sums
pub mod Laws
pub mod Marks
pub mod Duality
pub mod Failed
