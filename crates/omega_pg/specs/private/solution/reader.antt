-- What only the reader of solution texts keeps and promises.
pub mod Automaton
pub mod Lines
pub mod Reader
pub mod Reading
