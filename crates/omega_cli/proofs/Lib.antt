-- Lemmas by theme.
pub mod Adding
pub mod Formulas
