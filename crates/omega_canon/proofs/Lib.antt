-- Lemmas of canonical texts.
pub mod Lines
