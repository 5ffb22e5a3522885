pub mod Labels
pub mod Apart
pub mod Unique
