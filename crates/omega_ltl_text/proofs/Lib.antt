-- Lemmas of texts of formulas: lists, tokens, runs of the grammar, what is read, what is written.
pub mod Elements
pub mod Tokens
pub mod Exact
pub mod Runs
pub mod Absorbing
pub mod Unwinding
pub mod Deciding
pub mod Reductions
pub mod Steps
pub mod Texts
pub mod Quotables
pub mod Written
pub mod Taking
pub mod Measuring
pub mod Writings
