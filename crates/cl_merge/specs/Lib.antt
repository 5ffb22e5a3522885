pub mod Members
pub mod Processes
pub mod Requests
pub mod Events
pub mod Kept
pub mod Carrying
pub mod Laws
