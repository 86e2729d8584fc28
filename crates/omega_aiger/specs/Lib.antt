-- Circuits as texts: what contracts cite.
pub use Rattle.omega_circuit.specs.Canonical
pub use Rattle.omega_circuit.specs.Circuit
pub use Rattle.omega_circuit.specs.Faults
pub mod Beginnings
pub mod Deltas
pub mod Layout
pub mod Lines
pub mod Symbols
pub mod Forms
pub mod Text
pub mod Written
pub mod BinaryText
pub mod Laws
pub mod private
