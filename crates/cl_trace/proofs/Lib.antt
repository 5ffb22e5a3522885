mod Rows
pub mod Tickets
