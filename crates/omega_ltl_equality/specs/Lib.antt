-- Whether automata accept exactly the words that satisfy formulas: what contracts cite.
pub mod Equality
pub mod Refusing
pub mod Judging
pub mod Laws
pub mod private
pub use Rattle.omega_text.specs.Cases
pub use Rattle.omega_text.specs.Refusal
