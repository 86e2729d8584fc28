-- Lemmas of the lines that say what is to be mended.
-- Lemmas of the line that says why an automaton is not deterministic.
pub mod Counts
pub mod Greatest
pub mod Mentions
pub mod Names
pub mod Repeats
pub mod Texts
pub mod Written
pub mod reading
pub mod told
pub mod Before
pub mod Passing
pub mod LinesOfTexts
pub mod ChoicesTold
