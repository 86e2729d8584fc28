-- The rounds of a parity automaton whose propositions are parted, and what winning them means for the automaton; in
-- `private` what only private contracts cite.
pub use Rattle.omega_synth_controllers.specs.Controllers
pub use Rattle.omega_synth_rounds.specs.Rounds
pub mod Those
pub mod Letters
pub mod Answering
pub mod Classes
pub mod RoundsOf
pub mod Laws
pub mod Making
pub mod SizeLaws
pub mod Sizes
pub mod private
