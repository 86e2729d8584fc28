-- Complements: what public contracts cite, and in `private` what private contracts alone cite.
pub use Rattle.omega_text.specs.Cases
pub use Rattle.omega_text.specs.Refusal
pub mod Letters
pub mod Judged
pub mod Written
pub mod Complement
pub mod Refusing
pub mod private
