-- The words of lifting, with the words of games that they cite.
pub use Rattle.omega_game_values.specs.Game
pub use Rattle.omega_game_values.specs.Winning
pub use Rattle.omega_game_values.specs.Bound
pub mod Measure
pub mod Allowance
pub mod Least
pub mod Run
pub mod Answer
pub mod Laws
