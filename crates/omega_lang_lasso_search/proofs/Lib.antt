-- Lemmas of the search for a lasso: flags and numbers, lists that rise, the graph of an automaton, walks and lassos.
pub mod Names
pub mod Numbers
pub mod Kept
pub mod Rising
pub mod Flags
pub mod Listed
pub mod Edges
pub mod Walks
pub mod Lassos
pub mod Tables
pub mod Entering
