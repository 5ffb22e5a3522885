pub mod Ticks
pub mod Runs
pub mod Laws
pub mod Loops
