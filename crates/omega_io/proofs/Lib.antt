-- Lemmas by theme.
pub mod Told
pub mod Transfers
