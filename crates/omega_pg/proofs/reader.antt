-- Lemmas of grammars, of what reads them, and of what is written.
pub mod Deciding
pub mod Pieces
pub mod Runs
