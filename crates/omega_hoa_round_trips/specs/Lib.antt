-- Which automata have canonical texts that are read back, and how these are spelled.
pub mod Written
pub mod Writable
pub mod Laws
