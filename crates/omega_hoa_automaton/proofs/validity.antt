-- What an automaton that is written means is an automaton, and one without a fault means one.
pub mod Acceptance
pub mod Automata
pub mod Labels
pub mod Marks
pub mod Meanings
pub mod Propositions
pub mod Sizes
pub mod States
pub mod Tests
