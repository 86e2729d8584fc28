-- The shape of the measures of a player over a game.
use Rattle.std.specs.Prelude.{◌≡◌, ℕ, ◌*◌, ◌≤◌, List, length, map}
use Rattle.omega_game_values.specs.declared.player.Player.{Player}
use Rattle.omega_game_values.specs.Bound.{losing_priorities}
use Rattle.omega_lift_laws.specs.Least.{limits_of}
use Rattle.omega_game_values.specs.Bound.{IsStrictlyFalling}
use Rattle.omega_measure.specs.private.layout.Falling.{count_from}
use Rattle.omega_game_values.specs.Limits.{most_nodes}
use Rattle.omega_measure.specs.Limits.{most_cells}

-- the player and the nodes' priorities, which determine the measures
pub record Setting : Type 0 where
  pub player : Player
  pub priorities : List ℕ

-- the number of entries of a measure below top
abbrev pub width_of : Player → List ℕ → ℕ
width_of player priorities = length (losing_priorities player priorities)

-- the losing priorities, their limits, and for each place the number of entries for priorities at least its own; places
-- and cells are within the limits
pub record IsShape (player : Player) (priorities losing limits kept : List ℕ) : Type 0 where
  pub losing_in_use : losing ≡ losing_priorities player priorities
  pub falling : IsStrictlyFalling losing
  pub limits_in_use : limits ≡ limits_of player priorities
  pub kept_from : kept ≡ map (λ p. count_from p losing) priorities
  pub few : length priorities ≤ most_nodes
  pub slim : length losing ≤ most_cells
  pub narrow : length priorities * length losing ≤ most_cells
