-- Lemmas on texts of words: tokens, names, letters, where no word goes on, and texts that a word fits.
pub mod Exact
pub mod Fitted
pub mod Following
pub mod Formulas
pub mod Leading
pub mod Naming
pub mod Pieces
pub mod Refusals
pub mod Sayings
pub mod Semicolons
pub mod Spelled
pub mod Splitting
pub mod Strings
pub mod Unique
