-- Games as arrays: what public contracts cite; in `private` what private ones alone do.
pub use Rattle.omega_game_values.specs.Game
pub use Rattle.omega_game_values.specs.Solution
pub mod Arrays
pub mod Shape
pub mod Answer
pub mod Room
pub mod Bounds
pub mod Solving
pub mod Judging
pub mod private
