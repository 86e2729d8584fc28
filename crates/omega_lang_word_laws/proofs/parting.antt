-- That a deterministic automaton and its complement part the words.
pub mod Apart
pub mod Cover
pub mod Formulas
pub mod Meant
pub mod Moves
pub mod Numbered
pub mod One
pub mod Parts
pub mod Periods
pub mod Plain
pub mod Rounds
pub mod Writable
