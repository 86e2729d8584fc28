-- Answers about walks in games: explanations with names, and drawings with a walk; in `private` what private contracts
-- alone cite.
-- Texts of walks in games: what public contracts cite.
pub mod Draw
pub mod Laws
pub mod Verify
pub mod Walk
pub mod private
pub mod Covered
pub mod WalkTextLaws
pub mod Text
pub mod Written
pub use Rattle.omega_text.specs.Cases
pub use Rattle.omega_text.specs.Refusal
