pub mod Lines
pub mod Words
pub mod Equations
pub mod StatementEquations
pub mod ItemLines
mod Numerals
mod Spelled
mod Splitting
mod SplittingItems
mod Refill
mod Bared
mod Spoken
mod Levels
mod BaredParts
mod Builds
mod BuildsStatements
mod Replace
mod Settled
mod PartsSaid
mod Canon
mod ExprSteps
mod LevelSteps
mod PartsSaidStatements
mod StatementSteps
mod Canonical
mod Lexed
mod Fine
mod FineSteps
pub mod Back
mod Rows
