-- Unions of automata: what public contracts cite, and in `private` what private contracts alone cite.
pub use Rattle.omega_text.specs.Cases
pub use Rattle.omega_text.specs.Refusal
pub mod Sharing
pub mod Parts
pub mod Union
pub mod Refusing
pub mod private
