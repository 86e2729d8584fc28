-- That tokens are written in one way.
pub mod Automata
pub mod Body
pub mod Items
pub mod Rows
pub mod Tokens
