pub mod Laws
pub mod Bounds
pub mod Reading
pub mod Exact
pub mod Values
pub mod Unroll
