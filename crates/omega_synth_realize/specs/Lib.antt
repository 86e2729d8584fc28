-- Realizability of a parity automaton by its rounds: what public contracts cite, and in `private` what private
-- contracts alone cite.
-- Who wins a game in rounds: what public contracts cite.
pub mod Gaming
pub mod Laws
pub mod Lifting
pub mod Realizing
pub mod Refusing
pub mod private
pub mod Solving
pub use Rattle.omega_synth_controllers.specs.Controllers
pub use Rattle.omega_synth_game.specs.RoundsOf
pub use Rattle.omega_synth_rounds.specs.Rounds
pub use Rattle.omega_synth_rounds.specs.RoundsGame
