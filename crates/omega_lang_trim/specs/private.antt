-- What private contracts alone cite.
pub mod Placed
pub mod Writing
