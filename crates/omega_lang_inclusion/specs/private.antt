-- What private contracts alone cite.
pub mod LassoWords
pub mod Opened
pub mod Complemented
pub mod Choosing
