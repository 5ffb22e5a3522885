pub mod Front
pub mod Judging
pub mod Places
pub mod Reading
pub mod Ends
