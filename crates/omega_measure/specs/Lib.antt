-- What contracts of tables of measures cite, with the words of games and of lifting that these need; in `private` what
-- private contracts alone cite.
pub use Rattle.omega_text.specs.Cases
pub use Rattle.omega_game_values.specs.Game
pub use Rattle.omega_game_values.specs.Winning
pub use Rattle.omega_game_values.specs.Bound
pub use Rattle.omega_lift_laws.specs.Measure
pub use Rattle.omega_lift_laws.specs.Allowance
pub use Rattle.omega_lift_laws.specs.Run
pub use Rattle.omega_lift_laws.specs.Answer
pub use Rattle.omega_lift_laws.specs.Laws
pub mod Limits
pub mod Table
pub mod private
