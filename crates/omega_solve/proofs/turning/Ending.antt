-- A lifting run from the all-zero table ends with no lift due, in the least such table.
use Rattle.std.proofs.Common.{◌≡◌, ℕ, zero, suc, ◌+◌, ◌<◌, ◌≤◌, ◌⊎◌, inl, inr, List, [], ◌∷◌, ◌++◌, length, set, refl, subst, arith}
use Rattle.std.proofs.lemmas.Bool.{cases_lt}
use Rattle.std.proofs.lemmas.List.{length_push}
use Rattle.omega_game_values.specs.declared.player.Player.{Player}
use Rattle.omega_game_values.specs.Bound.{bound_of}
use Rattle.omega_game_values.specs.Game.{Node, IsGame, priorities}
use Rattle.omega_lift_laws.specs.Measure.{Measure}
use Rattle.omega_lift_laws.specs.Run.{IsDue, IsLiftingRun, IsStable, IsTable, zero_table}
use Rattle.omega_lift_laws.proofs.Lifting.{lift_keeps_table, run_is_bounded, zero_is_table}
use Rattle.omega_solve.specs.LeastTables.{RunsLeadToLeastTables}
use Rattle.omega_solve.proofs.lifting.Lifting.{run_more}
use Rattle.omega_solve.proofs.turning.Below.{run_below, same_tables, zero_below}
use Rattle.omega_solve.proofs.turning.Values.{due_or_not}

-- a lift is due at one of the first places, or at none
due_among : (nodes : List Node) (player : Player) (table : List Measure) (count : ℕ) → IsGame nodes → IsTable player (priorities nodes) table
    → count ≤ length nodes
    → ((v : ℕ) × (v < length nodes) × IsDue nodes player table v) ⊎ ((v : ℕ) → v < count → ¬ IsDue nodes player table v)
due_among nodes player table zero game is le = inr (λ v lt. absurd (omega arith))
due_among nodes player table (suc count) game is le = elim (due_or_not nodes player table count is game (omega arith)) [
  | inl due ↦ inl (count, omega arith, due)
  | inr not ↦ elim (due_among nodes player table count game is (omega arith)) [
    | inl found ↦ inl found
    | inr none ↦ inr (λ v lt. elim (cases_lt v count) [
      | inl below ↦ none v below
      | inr last ↦ let e : count ≡ v = omega arith in subst (λ (u : ℕ). ¬ IsDue nodes player table u) e not
    ])
  ]
]

-- a run ends with no lift due
record Ends (nodes : List Node) (player : Player) : Type 0 where
  pub table : List Measure
  pub places : List ℕ
  pub lifted : IsLiftingRun nodes player (zero_table player (priorities nodes)) places table
  pub is_table : IsTable player (priorities nodes) table
  pub stable : IsStable nodes player table

-- it goes on while a lift is due, at most as often as the bound has room for
goes_on : (nodes : List Node) (player : Player) (room : ℕ) (table : List Measure) (places : List ℕ) → IsGame nodes
    → IsTable player (priorities nodes) table → IsLiftingRun nodes player (zero_table player (priorities nodes)) places table
    → bound_of player (priorities nodes) < length places + room → Ends nodes player
goes_on nodes player zero table places game is lifted more =
    absurd (omega (arith, more, run_is_bounded nodes player places table lifted))
goes_on nodes player (suc room) table places game is lifted more = elim (due_among nodes player table (length nodes) game is (omega arith)) [
  | inl due ↦
      goes_on nodes player room (set table due.0 due.2.0) (places ++ due.0 ∷ []) game
      (lift_keeps_table nodes player table due.0 due.2.0 is due.2.1)
      (run_more nodes player (zero_table player (priorities nodes)) table places due.0 due.2.0 lifted due.1 due.2.1)
      (omega (arith, more, length_push places due.0))
  | inr none ↦ record { table = table; places = places; lifted = lifted; is_table = is; stable = none }
]

ends : (nodes : List Node) (player : Player) → IsGame nodes → Ends nodes player
ends nodes player game =
    goes_on nodes player (bound_of player (priorities nodes) + 1) (zero_table player (priorities nodes)) [] game (zero_is_table player (priorities nodes)) refl (omega arith)

-- a lifting run leads to the least table in which no lift is due
pub led_to_least : RunsLeadToLeastTables
led_to_least nodes player table game least =
    let end = ends nodes player game in
    let below = run_below nodes player (zero_table player (priorities nodes)) end.table table end.places game (zero_is_table player (priorities nodes))
    least.is_table least.stable end.lifted (zero_below nodes player table least.is_table) in
    let same = same_tables nodes player end.table table end.is_table least.is_table below (least.least end.table end.is_table end.stable) in
    record {
      places = end.places;
      lifted = subst (λ (t : List Measure). IsLiftingRun nodes player (zero_table player (priorities nodes)) end.places t) same end.lifted;
    }
