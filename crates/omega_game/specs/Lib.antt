-- Strategies checked and refuted: what public contracts cite, with the words of `omega_game_values`; in `private` what
-- private contracts alone cite.
pub use Rattle.omega_text.specs.Cases
pub use Rattle.omega_text.specs.Refusal
pub use Rattle.omega_game_values.specs.Limits
pub use Rattle.omega_game_values.specs.Player
pub use Rattle.omega_game_values.specs.Game
pub use Rattle.omega_game_values.specs.Winning
pub use Rattle.omega_game_values.specs.Solution
pub use Rattle.omega_game_values.specs.Bound
pub use Rattle.omega_game_values.specs.Building
pub use Rattle.omega_game_values.specs.Laws
pub use Rattle.omega_game_reaching.specs.Part
pub mod Checking
pub mod Counterexample
pub mod private
