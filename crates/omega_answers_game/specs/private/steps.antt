-- The steps between a text and its answer: cited by private contracts alone.
pub mod PartRefusal
pub mod Places
pub mod Drawn
pub mod Solved
pub mod Verdict
pub mod Lifts
pub mod Bounds
pub mod Winners
