-- What the private contracts of the search for counterexamples cite.
pub mod Ways
