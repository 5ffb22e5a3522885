pub mod Keys
pub mod Rows
pub mod DatedRows
pub mod Tables
pub mod Keeping
