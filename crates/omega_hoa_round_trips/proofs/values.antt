-- What an automaton keeps that was read from tokens.
pub mod Kept
pub mod Rows
pub mod Symbols
