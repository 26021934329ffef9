pub mod Ever
