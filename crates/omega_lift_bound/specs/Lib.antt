-- The words of games that the contract of the bound cites; in `private` what a private contract alone cites.
pub use Rattle.omega_game_values.specs.Game
pub use Rattle.omega_game_values.specs.Bound
pub mod private
