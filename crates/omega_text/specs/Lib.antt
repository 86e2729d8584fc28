-- What contracts cite: refusals and limits, then tokens, texts and how they are read; of PGSolver's texts in `pg`.
-- Labels in the DOT language, texts of numbered items, and words over names of propositions.
pub mod Bytes
pub mod Cases
pub mod Cursor
pub mod Cut
pub mod Format
pub mod Forms
pub mod Lexeme
pub mod JoinedLists
pub mod Limits
pub mod NamedWords
pub mod Omniscience
pub mod Reading
pub mod Refusal
pub mod Syntax
pub mod hoa
pub mod pg
pub mod private
pub mod Labels
pub mod Numbered
