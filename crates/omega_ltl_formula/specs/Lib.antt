-- Formulas of linear temporal logic, their meaning and their tables: what contracts cite.
pub use Rattle.omega_text.specs.NamedWords
pub mod Formula
pub mod Meaning
pub mod Limits
pub mod Table
pub mod Building
pub mod Negation
pub mod Laws
pub mod private
