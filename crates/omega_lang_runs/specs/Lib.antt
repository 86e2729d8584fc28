-- Lassos, runs and words of automata, verdicts, and edges by their numbers: what public contracts cite.
pub use Rattle.omega_text.specs.Cases
pub use Rattle.omega_text.specs.Refusal
pub mod Lasso
pub mod Judging
pub mod Runs
pub mod Words
pub mod Verdict
pub mod Places
pub mod Found
pub mod Laws
pub mod Parity
pub mod private
