-- The texts of games: their grammar, the game of a text or its refusal, the canonical text, and laws of all texts.
pub mod Canonical
pub mod Grammar
pub mod Laws
pub mod Priorities
pub mod Refusing
pub mod Text
