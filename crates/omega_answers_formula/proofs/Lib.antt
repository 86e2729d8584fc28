-- Lemmas of the answers about formulas.
pub mod Alone
pub mod EqualFormula
pub mod InTurn
pub mod Items
pub mod Naming
pub mod Strings
