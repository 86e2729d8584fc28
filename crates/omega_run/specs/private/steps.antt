-- The steps of a run: cited by private contracts alone.
pub mod Telling
