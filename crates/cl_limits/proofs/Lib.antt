pub mod Ahead
pub mod Operations
pub mod Expressions
pub mod Statements
pub mod Calls
pub mod Loops
pub mod Demanded
pub mod Laws
pub mod Replies
pub mod Names
pub mod Runs
mod Writing
mod Rows
