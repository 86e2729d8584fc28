-- What private contracts alone cite.
pub mod Rests
pub mod Turned
