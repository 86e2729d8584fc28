-- What private contracts alone cite.
pub mod Names
pub mod Parts
pub mod Stems
