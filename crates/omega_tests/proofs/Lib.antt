-- Lemmas of tokenizers.
pub mod Passing
