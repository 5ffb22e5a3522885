pub mod Equations
pub mod Loops
pub mod Sights
pub mod Verdicts
