-- Controllers and counter-strategies: what public contracts cite.
-- Which propositions the system controls, as a header item says.
pub mod Controllers
pub mod Strategies
pub mod Laws
pub mod Controllable
pub use Rattle.omega_text.specs.Cases
pub use Rattle.omega_text.specs.Refusal
