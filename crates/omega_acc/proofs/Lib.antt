-- Lemmas on canonical texts.
pub mod written
