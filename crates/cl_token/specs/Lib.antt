pub mod Heads
pub mod Lexing
pub mod Scanning
pub mod Steps
pub mod Tails
pub mod Views
