-- Lemmas of what is read of aliases.
pub mod Rows
pub mod Uses
