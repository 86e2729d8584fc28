-- What `ltl` and `satisfies` answer and refuse.
pub mod Formula
pub mod Canonical
pub mod Title
pub mod Ltl
pub mod Deterministic
pub mod DeterministicNegation
pub mod Refused
pub mod InTurn
pub mod Satisfies
pub mod Unmentioned
pub mod SatisfiesStream
pub mod SatisfiesWord
pub mod EqualFormula
pub mod Laws
pub use Rattle.omega_text.specs.Cases
pub use Rattle.omega_text.specs.Refusal
