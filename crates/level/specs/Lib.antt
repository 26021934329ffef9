pub mod Carry
pub mod Cuts
pub mod CutsBack
pub mod Numbers
pub mod Span
