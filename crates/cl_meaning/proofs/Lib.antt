pub mod Equations
pub mod Laws
mod Rows
pub mod Sentences
