-- Lemmas of the texts of games.
pub mod Built
pub mod Changes
pub mod Decided
pub mod Grammar
pub mod Lines
pub mod Listed
pub mod Pieces
pub mod Players
pub mod RoundTrip
pub mod Shown
pub mod Spelled
pub mod Texts
pub mod WellFormed
pub mod Written
pub mod Prioritized
