pub mod MatchLaws
pub mod ChainLaws
pub mod Numbering
pub mod Rows
