pub mod Hits
pub mod Kept
pub mod Demanded
pub mod Runs
pub mod Leavings
