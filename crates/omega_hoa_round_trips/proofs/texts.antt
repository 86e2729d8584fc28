-- Canonical texts, part by part: the tokens that each part is.
pub mod Expressions
pub mod Items
pub mod Lists
pub mod Pieces
pub mod Spelled
pub mod States
pub mod Whole
