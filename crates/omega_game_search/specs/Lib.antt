-- What contracts of the search cite.
pub use Rattle.omega_game_values.specs.Game
pub use Rattle.omega_game_values.specs.Solution
pub use Rattle.omega_game_values.specs.Winning
pub mod Turns
pub mod private
