-- Lemmas of game texts and solution texts.
pub mod games
pub mod reader
pub mod solutions
