-- What contracts of solving within a budget cite, and in `private` what private contracts alone cite.
pub use Rattle.omega_game_values.specs.Game
pub use Rattle.omega_lift_laws.specs.Answer
pub use Rattle.omega_lift_schedules.specs.Permutation
pub mod Reordering
pub mod Within
pub mod Observing
pub mod Laws
pub mod private
