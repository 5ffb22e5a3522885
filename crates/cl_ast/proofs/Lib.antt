pub mod Opens
pub mod Inductions
pub mod Fits
pub mod Marks
pub mod Rows
pub mod TokenRows
