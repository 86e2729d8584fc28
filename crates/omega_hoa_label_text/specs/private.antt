-- How a label is built from its tokens.
pub mod Building
pub mod Aliases
pub mod Emitting
pub mod Extents
