-- Lemmas of PGSolver's tokens.
pub mod Classes
pub mod Exact
pub mod Gaps
pub mod Longest
pub mod Numbers
pub mod Onward
pub mod Quoted
pub mod Tokens
pub mod Unique
pub mod Written
