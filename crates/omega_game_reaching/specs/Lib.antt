-- What choices reach, and parts: what public contracts cite, with the words of games that these need; in `private` what
-- private contracts alone cite.
pub use Rattle.omega_text.specs.Cases
pub use Rattle.omega_game_values.specs.Game
pub use Rattle.omega_game_values.specs.Paths
pub use Rattle.omega_game_values.specs.Places
pub use Rattle.omega_game_values.specs.Winning
pub mod Reaching
pub mod Part
pub mod Laws
pub mod private
