-- Texts of formulas: what public contracts cite.
pub use Rattle.omega_text.specs.Cases
pub mod Tokens
pub mod Cut
pub mod Symbols
pub mod Grammar
pub mod Text
pub mod Written
pub mod Laws
pub mod private
