pub mod Apart
pub mod Laws
pub mod SetLaws
pub mod Sets
pub mod Programs
pub mod Sources
