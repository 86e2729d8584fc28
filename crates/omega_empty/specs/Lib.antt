-- Emptiness of automata: what public contracts cite.
pub use Rattle.omega_text.specs.Cases
pub use Rattle.omega_text.specs.Refusal
pub mod Counters
pub mod EmptinessGame
pub mod Refusing
pub mod Laws
pub mod GameLaws
pub mod Deciding
pub mod Observing
pub mod private
