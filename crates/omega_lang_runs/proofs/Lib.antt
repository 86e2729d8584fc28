-- Lemmas of automata: their edges in order and by number, what they lead to, and runs.
pub mod Edges
pub mod Flat
pub mod Judged
pub mod Kept
pub mod SingleTargets
pub mod Leads
pub mod Placed
pub mod Standing
pub mod Repeats
pub mod runs
pub mod Verdicts
pub mod Taken
pub mod Parity
