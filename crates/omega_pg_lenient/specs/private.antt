-- What only the reader of lenient texts keeps and promises.
pub mod Automaton
pub mod Reader
