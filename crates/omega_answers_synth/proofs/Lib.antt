-- Lemmas by theme.
-- Ranges of numbers, what items say of one name, letters, which text a refusal is about, what an item lists, and which
-- answers are `yes`.
pub mod GivenOutputs
pub mod FormulaWinning
mod FormulaExact
mod Stated
mod Refused
mod SizeRefused
mod Observed
mod Lifted
mod Winning
pub mod Ranges
pub mod Alike
pub mod Literals
pub mod Reported
pub mod CounterReported
pub mod FormulaReported
pub mod OutputNames
pub mod ControllerStated
mod Named
pub mod Exact
mod WhoWins
mod Excluding
pub mod GivenLetters
pub mod Rows
pub mod Numbers
pub mod Parts
mod Unfailed
