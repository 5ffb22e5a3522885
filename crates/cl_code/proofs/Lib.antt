mod RuleRows
mod Rows
mod StartRows
mod PositionRows
pub mod Tests
pub mod Divisions
pub mod LawProofs
pub mod Keeping
pub mod Step
pub mod Fine
pub mod Holds
pub mod Effects
pub mod Requests
pub mod Flow
pub mod Safe
pub mod Processes
pub mod Heights
pub mod Landings
pub mod Beginning
pub mod Histories
pub mod Storable
mod MeaningRows
