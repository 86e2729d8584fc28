-- Texts of symbolic words: what public contracts cite, and in `private` what private contracts alone cite.
pub use Rattle.omega_text.specs.Cases
pub use Rattle.omega_text.specs.Refusal
pub mod Cut
pub mod Grammar
pub mod Reading
pub mod Text
pub mod Laws
pub mod private
