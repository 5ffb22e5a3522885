pub mod Rules
pub mod Syntax
pub mod Fit
pub mod Values
pub mod Unroll
