pub mod Equations
pub mod Front
pub mod Loops
pub mod Marks
pub mod Spans
pub mod Verdicts
pub mod Words
