-- The successor towards which a place is lifted, or to which it chooses to move.
use Rattle.std.specs.Prelude.{◌≡◌, ◌≢◌, ℕ, ◌<◌, Option, Some, None, IsSome, List, length, slice_get}
use Rattle.std.specs.declared.cmp.Ordering.{Ordering}
use Rattle.std.specs.declared.cmp.Ordering.TheVariants.{Less}
use Rattle.omega_game_values.specs.declared.player.Player.{Player}
use Rattle.omega_game_values.specs.Game.{Node, HasEdge, owner_at, priorities, priority_at, successors_at}
use Rattle.omega_lift_laws.specs.Measure.{Measure, compare_from}
use Rattle.omega_lift_laws.specs.Allowance.{IsAllowanceOf, measure_at}
use Rattle.omega_lift_laws.specs.Answer.{IsFirstLeast}
use Rattle.omega_lift_laws.specs.Run.{IsTable, Lifts}
use Rattle.omega_measure.specs.Table.{Content, Exceeds}

-- the table is one of the game for the player
pub record IsTableOf (nodes : List Node) (player : Player) (content : Content) : Type 0 where
  pub same_player : content.player ≡ player
  pub same_priorities : content.priorities ≡ priorities nodes
  pub is_table : IsTable player (priorities nodes) content.measures

-- the order of places by their measures, on the entries for priorities at least p
abbrev pub order_from : Content → ℕ → ℕ → ℕ → Ordering
order_from content p v w = compare_from content.player content.priorities p
    (measure_at content.measures v) (measure_at content.measures w)

-- x is the first best of the first `count` elements: no element compares to it as wanted, and it compares so to each
-- before it
pub record IsFirstBest (order : ℕ → ℕ → Ordering) (wanted : Ordering) (xs : List ℕ) (count : ℕ)
    (x : ℕ) : Type 0 where
  pub index : ℕ
  pub inside : index < count
  pub listed : slice_get xs index ≡ Some x
  pub best : (j u : ℕ) → j < count → slice_get xs j ≡ Some u → order u x ≢ wanted
  pub first : (j u : ℕ) → j < index → slice_get xs j ≡ Some u → order x u ≡ wanted

-- v has a successor, the allowance towards which does not exceed its measure
abbrev pub KeepsToSome : List Node → Content → ℕ → Type 0
KeepsToSome nodes content v = (w : ℕ) × HasEdge nodes v w × ¬ Exceeds content v w

-- w is the first successor of v of least measure, and the allowance towards it exceeds the measure of v
pub record IsLeastExceeded (nodes : List Node) (content : Content) (v w : ℕ) : Type 0 where
  pub exceeds : Exceeds content v w
  pub least : IsFirstBest (order_from content (priority_at nodes v)) Less (successors_at nodes v)
      (length (successors_at nodes v)) w

-- a lift is due at v, and its lift value is the allowance towards w
pub record IsDueTowards (nodes : List Node) (player : Player) (table : List Measure)
    (v w : ℕ) : Type 0 where
  pub value : Measure
  pub listed : HasEdge nodes v w
  pub allowance : IsAllowanceOf nodes player table v w value
  pub lifts : Lifts nodes player table v value

-- the choice of an answer at v: if v is won and the player owns it, the first successor of least allowance, else none
abbrev pub IsChoiceAt : List Node → Player → List Measure → ℕ → Option ℕ → Type 0
IsChoiceAt nodes player table v (Some w) =
    (owner_at nodes v ≡ player) × IsSome (measure_at table v) × IsFirstLeast nodes player table v w
IsChoiceAt nodes player table v None = owner_at nodes v ≡ player → measure_at table v ≡ None
