-- Lemmas by what they are about: rounds, cubes, labels, and the edges of a state.
pub mod Rounds
pub mod LaneBits
pub mod Cubes
pub mod LabelLemmas
pub mod Growing
pub mod States
pub mod Words
pub mod Meaning
pub mod Naming
pub mod Quotable
