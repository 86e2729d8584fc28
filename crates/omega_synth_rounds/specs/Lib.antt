-- Games in rounds, their parity games, and what winning these means: what public contracts cite, and in `private` what
-- private contracts alone cite.
pub use Rattle.omega_game_values.specs.Building
pub use Rattle.omega_game_values.specs.Winning
pub mod Rounds
pub mod RoundsGame
pub mod Extracting
pub mod Laws
pub mod Naming
pub mod private
