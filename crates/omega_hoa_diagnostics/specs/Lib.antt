-- The lines that say what is to be mended in a refused automaton text.
-- The line that says why an automaton is not deterministic.
pub mod Aliases
pub mod AutomatonCauses
pub mod Finding
pub mod Laws
pub mod Sets
pub mod States
pub mod private
pub mod LinesOfTexts
pub mod ChoiceCauses
pub mod ItemCauses
pub mod Choices
pub mod ChoiceLaws
