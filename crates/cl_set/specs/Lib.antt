pub mod Stores
pub mod Sets
pub mod Deeds
pub mod Conditions
pub mod Keeping
pub mod Standing
pub mod Laws
