-- Circuits: what contracts cite.
pub use Rattle.omega_text.specs.NamedWords
pub mod Limits
pub mod Symbols
pub mod Circuit
pub mod Rounds
pub mod Canonical
pub mod Faults
pub mod Laws
pub mod private
