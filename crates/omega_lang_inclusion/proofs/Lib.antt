-- Lemmas of containment, and on automata of words: letters, edges, states, runs, membership, and refusals.
pub mod Below
pub mod Common
pub mod Complementing
pub mod Edges
pub mod Going
pub mod Judging
pub mod Members
pub mod WordLetters
pub mod Opened
pub mod Refused
pub mod Rejecting
pub mod Rows
pub mod Running
pub mod Together
