-- Lemmas by theme.
-- Lemmas by theme.
-- Lemmas by theme.
pub mod Accepting
pub mod Appended
pub mod Drawing
pub mod Explaining
pub mod Identifiers
pub mod Parts
pub mod Places
pub mod Refused
pub mod SelfLoops
pub mod Solutions
pub mod Solved
pub mod Solving
pub mod TurningGames
pub mod Verifying
pub mod GivenWinners
pub mod Observing
pub mod Ranges
pub mod Tables
pub mod Walks
pub mod Grouped
pub mod Led
pub mod Leading
pub mod Counted
pub mod Unique
pub mod TurnedGames
pub mod TurnedLimits
pub mod TurnedPlays
pub mod TurnedTexts
pub mod TurnedPriorities
