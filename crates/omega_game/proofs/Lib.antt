-- Lemmas by theme.
pub mod walks
