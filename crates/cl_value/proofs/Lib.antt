pub mod Lists
pub mod Tickets
