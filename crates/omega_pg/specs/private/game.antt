-- What the reader of games keeps.
pub mod reader
