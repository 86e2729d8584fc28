-- Lemmas of games with dead ends.
pub mod Back
pub mod Choices
pub mod Completed
pub mod Forth
pub mod Opened
pub mod Plays
pub mod Rearranged
