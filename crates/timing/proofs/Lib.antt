pub mod Ready
pub mod Far
