pub mod Calling
pub mod Declaring
pub mod Derived
pub mod Expressions
pub mod Found
pub mod Functions
pub mod Leading
pub mod Operating
pub mod Outside
pub mod Places
pub mod Process
mod Rows
pub mod Settled
pub mod Statements
pub mod Texts
