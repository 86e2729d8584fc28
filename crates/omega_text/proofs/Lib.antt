-- Lemmas, by what they are about: formats, PGSolver's texts, syntaxes.
-- Lemmas of labels and of rows.
pub mod formats
pub mod hoa_texts
pub mod pg_texts
pub mod syntaxes
pub mod Chunks
pub mod JoinedLists
pub mod Omniscience
pub mod Rows
