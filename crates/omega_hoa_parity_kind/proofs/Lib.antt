-- Lemmas on numbers with a parity, and on the least mark.
pub mod Parities
pub mod PriorityLemmas
