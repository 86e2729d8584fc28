-- Automata without useless states: what public contracts cite, and in `private` what private contracts alone cite.
pub use Rattle.omega_text.specs.Cases
pub use Rattle.omega_text.specs.Refusal
pub mod Useful
pub mod Trimmed
pub mod Written
pub mod Refusing
pub mod private
