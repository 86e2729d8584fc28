-- What a canonical text means: the automaton that it was written of.
pub mod Expressions
pub mod Faultless
pub mod Form
pub mod Meant
pub mod ReadBack
pub mod Said
pub mod Tests
