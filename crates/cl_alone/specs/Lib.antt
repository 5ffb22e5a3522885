pub mod Moment
pub mod Pauses
pub mod Seekings
pub mod Performing
pub mod Sets
pub mod Reports
pub mod Leaving
