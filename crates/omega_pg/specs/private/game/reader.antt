-- What only the reader of game texts keeps and promises.
pub mod Automaton
pub mod Built
pub mod Pieces
pub mod Reader
