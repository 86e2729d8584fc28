-- How automata lie in memory: cited by private contracts alone.
pub mod Automaton
pub mod Body
pub mod Edges
pub mod Findings
pub mod Gathered
pub mod Order
pub mod Definitions
pub mod Draft
pub mod Single
