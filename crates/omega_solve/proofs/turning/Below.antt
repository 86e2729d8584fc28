-- Lifts lead to no measure above those of a table in which no lift is due.
use Rattle.std.proofs.Common.{◌≡◌, ℕ, ◌<◌, inl, inr, List, [], ◌∷◌, Some, None, length, set, sym, ap, ◌∙◌, subst, arith, Less, Equal, Greater}
use Rattle.std.proofs.lemmas.Bool.{cases_eq}
use Rattle.std.proofs.lemmas.List.{ext_get_or, get_or-replicate, get_or-set_other, get_or-set_same, length-map}
use Rattle.omega_game_values.specs.declared.player.Player.{Player}
use Rattle.omega_game_values.specs.Bound.{losing_priorities}
use Rattle.omega_game_values.specs.Game.{Node, HasEdge, IsGame, owner_at, priority_at, priorities}
use Rattle.omega_lift_laws.specs.Measure.{Measure, IsMeasure, IsAtMost, zero_measure}
use Rattle.omega_lift_laws.specs.Allowance.{IsLiftValue, measure_at}
use Rattle.omega_lift_laws.specs.Run.{IsLiftingRun, IsStable, IsTable, Lifts, zero_table}
use Rattle.omega_lift_laws.proofs.Choosing.{allowance_towards, allowance_towards_is, cases_player, not_due}
use Rattle.omega_lift_laws.proofs.Entries.{zeros_least}
use Rattle.omega_lift_laws.proofs.LeastMeasure.{allowance_is_monotone, at_most_from}
use Rattle.omega_lift_laws.proofs.Lifting.{lift_keeps_table, measure_at_is}
use Rattle.omega_lift_laws.proofs.Order.{at_most_trans, compare_total, equal_from_both, same_measures}
use Rattle.omega_solve.proofs.turning.Values.{value_exists}

-- each measure of the one table is at most that of the other
abbrev pub AreAtMost : List Node → List Measure → List Measure → Type 0
AreAtMost nodes table other = (v : ℕ) → v < length nodes → IsAtMost (measure_at table v) (measure_at other v)

-- then lift values are not above those of the other
value_below : (nodes : List Node) (player : Player) (table other : List Measure) (v : ℕ) (x y : Measure) → IsGame nodes
    → IsTable player (priorities nodes) table → IsTable player (priorities nodes) other → AreAtMost nodes table other
    → IsLiftValue nodes player table v x → IsLiftValue nodes player other v y → IsAtMost x y
value_below nodes player table other v x y game is is_other below one two =
    let higher = λ (w : ℕ) (edge : HasEdge nodes v w).
    allowance_is_monotone player (priorities nodes) (priority_at nodes v) (measure_at table w) (measure_at other w)
    (allowance_towards nodes player table v w) (allowance_towards nodes player other v w)
    (at_most_from player (priorities nodes) (priority_at nodes v) (measure_at table w) (measure_at other w) (below w (game.closed v w edge)))
    (allowance_towards_is nodes player table v w is) (allowance_towards_is nodes player other v w is_other) in
    elim (cases_player (owner_at nodes v) player) [
      | inl own ↦
          let w = two.successor in
          at_most_trans compare_total x (allowance_towards nodes player table v w) y
          (one.least own w (allowance_towards nodes player table v w) two.listed (allowance_towards_is nodes player table v w is))
          (allowance_is_monotone player (priorities nodes) (priority_at nodes v) (measure_at table w) (measure_at other w)
          (allowance_towards nodes player table v w) y
          (at_most_from player (priorities nodes) (priority_at nodes v) (measure_at table w) (measure_at other w) (below w (game.closed v w two.listed)))
          (allowance_towards_is nodes player table v w is) two.allowance)
      | inr not_own ↦
          let w = one.successor in
          at_most_trans compare_total x (allowance_towards nodes player other v w) y
          (allowance_is_monotone player (priorities nodes) (priority_at nodes v) (measure_at table w) (measure_at other w)
          x (allowance_towards nodes player other v w)
          (at_most_from player (priorities nodes) (priority_at nodes v) (measure_at table w) (measure_at other w) (below w (game.closed v w one.listed)))
          one.allowance (allowance_towards_is nodes player other v w is_other))
          (two.greatest not_own w (allowance_towards nodes player other v w) one.listed (allowance_towards_is nodes player other v w is_other))
    ]

-- one measure replaced by one that is not above that of the other
pub at_most_set : (nodes : List Node) (table other : List Measure) (v : ℕ) (x : Measure) → length table ≡ length nodes
    → AreAtMost nodes table other → IsAtMost x (measure_at other v) → AreAtMost nodes (set table v x) other
at_most_set nodes table other v x entries below at u lt = elim (cases_eq u v) [
  | inl e ↦
      let here : measure_at (set table v x) u ≡ x = ap (measure_at (set table v x)) e ∙ get_or-set_same table v x None (omega arith) in
      subst (λ y. IsAtMost y (measure_at other u)) (sym here) (subst (λ w. IsAtMost x (measure_at other w)) (sym e) at)
  | inr ne ↦ subst (λ y. IsAtMost y (measure_at other u)) (sym (get_or-set_other table v u x None ne)) (below u lt)
]

-- a table has a measure for each node
pub entries_of : (nodes : List Node) (player : Player) (table : List Measure) → IsTable player (priorities nodes) table → length table ≡ length nodes
entries_of nodes player table is = is.entries ∙ length-map nodes (λ (node : Node). node.priority)

-- a lift leads to no measure above those of a table in which no lift is due
pub lift_below : (nodes : List Node) (player : Player) (table other : List Measure) (v : ℕ) (x : Measure) → IsGame nodes
    → IsTable player (priorities nodes) table → IsTable player (priorities nodes) other → IsStable nodes player other
    → v < length nodes → Lifts nodes player table v x → AreAtMost nodes table other → AreAtMost nodes (set table v x) other
lift_below nodes player table other v x game is is_other stable lt lifts below =
    let value = value_exists nodes player other v is_other game lt in
    at_most_set nodes table other v x (entries_of nodes player table is) below
    (at_most_trans compare_total x value.0 (measure_at other v)
    (value_below nodes player table other v x value.0 game is is_other below lifts.value value.1)
    (not_due nodes player other v value.0 stable lt value.1))

-- nor does a run
pub run_below : (nodes : List Node) (player : Player) (old new other : List Measure) (places : List ℕ) → IsGame nodes
    → IsTable player (priorities nodes) old → IsTable player (priorities nodes) other → IsStable nodes player other
    → IsLiftingRun nodes player old places new → AreAtMost nodes old other → AreAtMost nodes new other
run_below nodes player old new other [] game is is_other stable same below = subst (λ (t : List Measure). AreAtMost nodes t other) same below
run_below nodes player old new other (v ∷ vs) game is is_other stable lifted below =
    run_below nodes player (set old v lifted.0) new other vs game (lift_keeps_table nodes player old v lifted.0 is lifted.2) is_other stable lifted.3
    (lift_below nodes player old other v lifted.0 game is is_other stable lifted.1 lifted.2 below)

-- no measure is above top
pub at_most_top : (x : Measure) → IsAtMost x None
at_most_top None = λ above. let same : Equal ≡ Greater = above in absurd (cc)
at_most_top (Some xs) = λ above. let same : Less ≡ Greater = above in absurd (cc)

-- no measure is below that of zeros
zero_at_most : (player : Player) (bearing : List ℕ) (x : Measure) → IsMeasure player bearing x → IsAtMost (zero_measure player bearing) x
zero_at_most player bearing None is = at_most_top (zero_measure player bearing)
zero_at_most player bearing (Some xs) is = zeros_least (losing_priorities player bearing) xs (sym is.count)

-- so the all-zero table is below each
pub zero_below : (nodes : List Node) (player : Player) (other : List Measure) → IsTable player (priorities nodes) other
    → AreAtMost nodes (zero_table player (priorities nodes)) other
zero_below nodes player other is v lt =
    let inside : v < length (priorities nodes) = omega (arith, length-map nodes (λ (node : Node). node.priority)) in
    subst (λ x. IsAtMost x (measure_at other v)) (sym (get_or-replicate (length (priorities nodes)) v (zero_measure player (priorities nodes)) None inside))
    (zero_at_most player (priorities nodes) (measure_at other v) (measure_at_is player (priorities nodes) other is v))

-- two tables, each at most the other, are the same
pub same_tables : (nodes : List Node) (player : Player) (table other : List Measure) → IsTable player (priorities nodes) table
    → IsTable player (priorities nodes) other → AreAtMost nodes table other → AreAtMost nodes other table → table ≡ other
same_tables nodes player table other is is_other below above =
    ext_get_or None table other (is.entries ∙ sym is_other.entries)
    (λ v lt.
    let node : v < length nodes = omega (arith, lt, entries_of nodes player table is) in
    same_measures (measure_at table v) (measure_at other v)
    (equal_from_both compare_total (measure_at table v) (measure_at other v) (below v node) (above v node)))
