pub mod Names
pub mod Listing
pub mod Listed
pub mod Walks
pub mod Tables
