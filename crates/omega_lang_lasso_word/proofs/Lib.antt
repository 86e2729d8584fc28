-- Lemmas of words of lassos: runs along them, literals, and what their texts say.
-- Lemmas of runs of lassos.
pub mod Admitted
pub mod Literals
pub mod Reader
pub mod Truths
pub mod Said
pub mod Lines
pub mod Fitted
pub mod Infixes
pub mod Conjunctions
pub mod Sources
