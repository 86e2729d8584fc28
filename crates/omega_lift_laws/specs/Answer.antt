-- The answer that a table gives: the places won, and the choices there.
use Rattle.std.specs.Prelude.{◌≡◌, ◌≢◌, ℕ, ◌<◌, Bool, is_some, IsSome, Option}
use Rattle.std.specs.Prelude.{Some, None, List, length, map, slice_get}
use Rattle.omega_game_values.specs.declared.player.Player.{Player}
use Rattle.omega_game_values.specs.Game.{Node, owner_at, successors_at}
use Rattle.omega_game_values.specs.Winning.{Chooses}
use Rattle.omega_lift_laws.specs.Measure.{Measure, IsAbove, IsAtMost}
use Rattle.omega_lift_laws.specs.Allowance.{IsAllowanceOf, measure_at}

-- the places won, whose measure is below top
abbrev pub won_in : List Measure → List Bool
won_in table = map is_some table

-- w is the first of v's successors, as listed, whose allowance is least
pub record IsFirstLeast (nodes : List Node) (player : Player) (table : List Measure)
    (v w : ℕ) : Type 0 where
  pub index : ℕ
  pub listed : slice_get (successors_at nodes v) index ≡ Some w
  pub allowance : Measure
  pub allows : IsAllowanceOf nodes player table v w allowance
  pub least : (j u : ℕ) (y : Measure) → slice_get (successors_at nodes v) j ≡ Some u
      → IsAllowanceOf nodes player table v u y → IsAtMost allowance y
  pub first : (j u : ℕ) (y : Measure) → j < index → slice_get (successors_at nodes v) j ≡ Some u
      → IsAllowanceOf nodes player table v u y → IsAbove y allowance

-- the choices of an answer: the first successor of least allowance at a won place of the player, none at all others
pub record AreChoices (nodes : List Node) (player : Player) (table : List Measure)
    (choices : List (Option ℕ)) : Type 0 where
  pub entries : length choices ≡ length nodes
  pub chosen :
      (v : ℕ) → v < length nodes → owner_at nodes v ≡ player → IsSome (measure_at table v)
      → (w : ℕ) × Chooses choices v w × IsFirstLeast nodes player table v w
  pub others :
      (v : ℕ) → v < length nodes → owner_at nodes v ≢ player → slice_get choices v ≡ Some None
  pub lost :
      (v : ℕ) → v < length nodes → measure_at table v ≡ None → slice_get choices v ≡ Some None
