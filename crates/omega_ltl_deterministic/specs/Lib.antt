-- Deterministic parity automata of formulas: what contracts cite; in `private` what only private contracts cite.
pub mod Limits
pub mod Candidate
pub mod private
