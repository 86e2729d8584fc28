-- Lemmas by theme.
mod Ranges
mod Starts
mod FlagLemmas
mod Literals
mod Written
mod LetterEdges
mod Graphs
mod Plain
mod Whole
