-- Lemmas of the grammar of lenient texts, and of what is read of them.
pub mod Changes
pub mod Decided
pub mod Exact
pub mod Kept
pub mod Players
pub mod Quoted
pub mod Shown
pub mod Spelled
pub mod Strict
pub mod Symbols
pub mod WellFormed
