pub mod PositionLaws
mod Rows
