pub mod Positions
pub mod Analysis
pub mod Listing
