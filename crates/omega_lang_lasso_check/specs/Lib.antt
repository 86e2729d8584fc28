-- A referee for lassos: what public contracts cite.
pub use Rattle.omega_text.specs.Cases
pub use Rattle.omega_text.specs.Refusal
pub mod Conditions
pub mod Fault
pub mod FaultText
pub mod Laws
pub mod Refusing
pub mod private
