-- Whether automata and words satisfy formulas: what contracts cite.
pub mod Satisfaction
pub mod SatisfyingWords
pub mod WordSatisfaction
pub mod Conjuncts
pub mod Refusing
pub mod WordRefusing
pub mod Names
pub mod Laws
pub mod private
pub use Rattle.omega_text.specs.Cases
pub use Rattle.omega_text.specs.Refusal
