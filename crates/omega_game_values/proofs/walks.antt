-- Strategies' choices.
pub mod Choosing
