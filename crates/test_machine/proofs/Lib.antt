pub mod TestRows
pub mod Trying
