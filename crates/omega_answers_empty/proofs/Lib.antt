-- Lemmas by theme.
pub mod Observing
