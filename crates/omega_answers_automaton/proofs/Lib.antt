-- Lemmas by theme: the faults of lassos, and which text a refusal is about.
pub mod Faults
pub mod Lassos
