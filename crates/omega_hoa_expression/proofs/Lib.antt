-- Lemmas on what labels and formulas have in common: lists that pass a test, what is pending, tokens,
-- how they are completed, and where nothing is read of them.
pub mod BelowLemmas
pub mod ClosingLemmas
pub mod PassingLemmas
pub mod PendingLemmas
pub mod UnreadLemmas
