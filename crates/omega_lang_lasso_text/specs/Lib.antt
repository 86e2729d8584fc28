-- Texts of lassos: what public contracts cite.
pub use Rattle.omega_text.specs.Cases
pub use Rattle.omega_text.specs.Refusal
pub mod Tokens
pub mod Cut
pub mod Fault
pub mod Format
pub mod Symbols
pub mod Grammar
pub mod Text
pub mod Refusing
pub mod Lines
pub mod Written
pub mod Laws
pub mod private
