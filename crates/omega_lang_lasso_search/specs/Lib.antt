-- A search for an accepting lasso: what public contracts cite.
pub use Rattle.omega_text.specs.Cases
pub use Rattle.omega_text.specs.Refusal
pub mod Searching
pub mod Tabled
pub mod TableLassos
pub mod Laws
pub mod private
