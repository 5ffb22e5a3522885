pub mod Arithmetic
pub mod Views
