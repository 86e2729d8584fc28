-- Omega-automata: what public contracts cite; in `private` what private ones alone do.
pub use Rattle.omega_text.specs.Cases
pub use Rattle.omega_text.specs.Refusal
pub mod Limits
pub mod Automaton
pub mod AcceptanceKind
pub mod Branching
pub mod Items
pub mod Faults
pub mod Meaning
pub mod Laws
pub mod private
pub mod Written
