-- Parity games as values: what public contracts cite; in `private` what private ones alone do.
pub use Rattle.omega_text.specs.Cases
pub use Rattle.omega_text.specs.Refusal
pub mod Limits
pub mod Player
pub mod Game
pub mod Winning
pub mod Paths
pub mod Places
pub mod Solution
pub mod Bound
pub mod Building
pub mod Laws
pub mod private
