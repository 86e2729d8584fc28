-- Lemmas by theme.
pub mod Given
pub mod LooseWalks
pub mod Runs
pub mod TextWalks
pub mod Words
