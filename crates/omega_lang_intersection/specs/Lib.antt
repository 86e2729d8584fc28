-- Words that two automata both accept: what public contracts cite, and in `private` what private contracts alone cite.
pub mod Intersection
pub mod private
pub use Rattle.omega_text.specs.Cases
pub use Rattle.omega_text.specs.Refusal
