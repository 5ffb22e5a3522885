pub mod Classes
pub mod Expression
pub mod Readings
pub mod Steps
