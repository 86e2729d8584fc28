-- Canonical texts of streams: the tokens of each automaton before those of the next.
pub mod After
pub mod ReadBack
