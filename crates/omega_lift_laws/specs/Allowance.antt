-- Allowances, the Prog(ρ, v, w) of Jurdziński (2000), and lift values.
use Rattle.std.specs.Prelude.{◌≡◌, ◌≢◌, ℕ, Bool, true, false, not, IsTrue}
use Rattle.std.specs.Prelude.{Some, None, List, slice_index_or, if◌then◌else◌}
use Rattle.std.specs.Ordering.{is_gt, is_lt}
use Rattle.omega_game_values.specs.declared.player.Player.{Player}
use Rattle.omega_game_values.specs.Game.{Node, HasEdge, owner_at, priorities, priority_at}
use Rattle.omega_game_values.specs.Player.{loses}
use Rattle.omega_lift_laws.specs.Measure.{Measure, IsMeasure, IsAtMost, compare_from}

-- x suffices at priority p towards y: it is at least y on the entries for priorities at least p, and above y there if p
-- loses; top always suffices
abbrev pub suffices : Player → List ℕ → ℕ → Measure → Measure → Bool
suffices player priorities p None y = true
suffices player priorities p (Some xs) None = false
suffices player priorities p (Some xs) (Some ys) =
    let order = compare_from player priorities p (Some xs) (Some ys) in
    if loses player p then is_gt order else not (is_lt order)

-- x is the allowance of a node of priority p towards a node whose measure is y: the least measure that suffices
pub record IsAllowance (player : Player) (priorities : List ℕ) (p : ℕ) (y x : Measure) : Type 0 where
  pub measure : IsMeasure player priorities x
  pub enough : IsTrue (suffices player priorities p x y)
  pub least : (z : Measure) → IsMeasure player priorities z
      → IsTrue (suffices player priorities p z y) → IsAtMost x z

-- the measure at a place of a table
abbrev pub measure_at : List Measure → ℕ → Measure
measure_at table v = slice_index_or table v None

-- x is the allowance of v towards w under a table ρ: Prog(ρ, v, w) in the literature
abbrev pub IsAllowanceOf : List Node → Player → List Measure → ℕ → ℕ → Measure → Type 0
IsAllowanceOf nodes player table v w x =
    IsAllowance player (priorities nodes) (priority_at nodes v) (measure_at table w) x

-- x is the lift value of v, to which Lift(ρ, v) raises it in the literature:
-- the least allowance over its successors if the player owns v, else the greatest
pub record IsLiftValue (nodes : List Node) (player : Player) (table : List Measure) (v : ℕ)
    (x : Measure) : Type 0 where
  pub successor : ℕ
  pub listed : HasEdge nodes v successor
  pub allowance : IsAllowanceOf nodes player table v successor x
  pub least : owner_at nodes v ≡ player → (w : ℕ) (y : Measure) → HasEdge nodes v w
      → IsAllowanceOf nodes player table v w y → IsAtMost x y
  pub greatest : owner_at nodes v ≢ player → (w : ℕ) (y : Measure) → HasEdge nodes v w
      → IsAllowanceOf nodes player table v w y → IsAtMost y x
