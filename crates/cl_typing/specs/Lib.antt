pub mod Bodies
pub mod Laws
pub mod Requests
pub mod Standing
pub mod Steps
pub mod Texts
pub mod Values
