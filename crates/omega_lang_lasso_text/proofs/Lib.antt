-- Lemmas of lasso texts: tokens, runs of the grammar, what is read, what is written.
pub mod Tokens
pub mod Unique
pub mod Onward
pub mod Exact
pub mod Runs
pub mod Deciding
pub mod Steps
pub mod Texts
pub mod Written
pub mod Spaced
pub mod LassoPart
