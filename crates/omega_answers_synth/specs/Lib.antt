-- What `realize` answers and refuses of one automaton, and in `private` what private contracts alone cite.
-- What `verify --specification` answers and refuses.
pub mod Decide
pub mod Game
pub mod Observing
pub mod Refusing
pub mod Winner
pub mod private
pub mod Parting
pub mod Letter
pub mod Reason
pub mod Verify
pub mod Counter
pub mod Outputs
pub mod FormulaController
pub mod FormulaCounter
pub mod FormulaWinner
pub mod FormulaRefusing
pub mod FormulaGame
pub mod FormulaLaws
pub mod Laws
pub use Rattle.omega_text.specs.Cases
pub use Rattle.omega_text.specs.Refusal
