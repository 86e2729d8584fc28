-- Lemmas on acceptance kinds and priorities.
pub mod BuchiLemmas
pub mod KindLemmas
