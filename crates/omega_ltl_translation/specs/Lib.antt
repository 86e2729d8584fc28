-- The automaton of a formula: what contracts cite.
pub mod Limits
pub mod PastLimits
pub mod Translation
pub mod private
