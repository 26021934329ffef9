pub mod Answer
pub mod Code
pub mod Fill
