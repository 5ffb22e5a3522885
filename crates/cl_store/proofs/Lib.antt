pub mod Matches
pub mod Played
pub mod Same
