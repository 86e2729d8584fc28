-- Lemmas of answers about walks: what is explained, and places that are named or joined.
-- Lemmas of texts of walks: what is covered, and what is written.
pub mod Explaining
pub mod Explanations
pub mod Joined
pub mod Naming
pub mod Covers
pub mod Written
