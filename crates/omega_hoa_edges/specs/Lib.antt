-- What contracts about automata that are made of others cite in common; in `private` what private ones alone do.
-- Conjunctions of labels; in `private` what only private contracts cite.
-- Determinism: what public contracts cite, and in `private` what private contracts alone cite.
pub mod Labels
pub mod Names
pub mod Fitting
pub mod Limits
pub mod private
pub mod Conjuncts
pub mod AutomatonLabels
pub mod Letters
pub mod Judged
pub mod Determinism
pub mod Refusing
pub mod Summaries
pub use Rattle.omega_text.specs.Cases
pub use Rattle.omega_text.specs.Refusal
