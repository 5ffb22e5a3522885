pub mod Faults
pub mod Streams
pub mod Memory
pub mod Wrapped
pub mod Ends
