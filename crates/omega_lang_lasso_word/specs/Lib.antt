-- Words and runs of lassos, their text, and symbolic words: what public contracts cite, and in `private` what private
-- contracts alone cite.
pub mod Names
pub mod Letters
pub mod WordText
pub mod LassoWordText
pub mod Formulas
pub mod Fitting
pub mod Laws
pub mod Form
pub mod RunText
pub mod Admitted
pub mod private
pub use Rattle.omega_text.specs.Cases
pub use Rattle.omega_text.specs.Refusal
