-- Lemmas of every syntax.
pub mod Deciding
pub mod Faults
pub mod Fronts
pub mod Places
pub mod Taking
