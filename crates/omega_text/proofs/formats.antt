-- Lemmas of every format.
pub mod Cutting
pub mod Lefts
pub mod Stops
