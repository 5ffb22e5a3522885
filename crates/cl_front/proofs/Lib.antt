pub mod Refused
pub mod FrontLaws
pub mod JudgingLaws
