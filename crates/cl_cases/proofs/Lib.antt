pub mod Called
pub mod Exits
pub mod Fields
pub mod Giving
pub mod HeadDerived
mod HeadRows
pub mod Headed
pub mod Heads
pub mod Initials
pub mod Listed
mod LiteralDerived
mod LiteralRules
mod LiteralSentences
mod LiteralTokens
pub mod Loops
pub mod Operands
mod OutlineCalls
mod OutlineExpressions
mod OutlineLaws
mod OutlineShapes
mod OutlineStatements
mod OutlineSteps
mod PlaceFacts
mod PlaceLaws
mod PlaceRows
pub mod Prints
mod RangeCalls
mod RangeExpressions
mod RangeGlobals
mod RangeHistories
mod RangeNumbers
mod RangeRows
mod RangeStatements
mod RangeSteps
mod RangeVariables
pub mod Replies
mod Rows
