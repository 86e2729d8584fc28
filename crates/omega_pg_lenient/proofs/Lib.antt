-- Lemmas of lenient game texts.
pub mod grammar
pub mod playing
pub mod texts
