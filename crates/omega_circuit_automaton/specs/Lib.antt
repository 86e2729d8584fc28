-- The automaton of a circuit: what contracts cite.
pub mod Names
pub mod Valuations
pub mod CircuitAutomaton
pub mod private
