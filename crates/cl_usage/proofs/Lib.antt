pub mod FieldLaws
pub mod BesideLaws
pub mod Members
pub mod ClassLaws
pub mod LawProofs
pub mod SuitProofs
pub mod StorableProofs
