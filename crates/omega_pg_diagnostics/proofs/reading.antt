-- Lemmas of texts that are read token by token.
pub mod Reading
