-- What private contracts alone cite.
pub mod Parts
pub mod Reached
pub mod Texts
