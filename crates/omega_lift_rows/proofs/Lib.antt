-- The lemmas of rows of measures.
pub mod Raising
pub mod RowWrites
