-- Runs of raises: lifts, and places given up. Each raise adds at least one to the sum of the ranks.
use Rattle.std.proofs.Common.{◌≡◌, ℕ, ◌+◌, ◌-◌, ◌*◌, ◌<◌, ◌≤◌, ◌^◌, inl, inr, List, [], ◌∷◌, ◌++◌, Some, None, All, IsSome, length, min, set, refl, sym, ap, ◌∙◌, subst, arith}
use Rattle.std.proofs.lemmas.Bool.{cases_eq, false≢true}
use Rattle.std.proofs.lemmas.List.{get_or-set_other, get_or-set_same, get_or_default, length-append, length-map, length-set}
use Rattle.std.proofs.lemmas.List.Sums.{sum_by-le, sum_by-set}
use Rattle.omega_game_values.specs.declared.player.Player.{Player}
use Rattle.omega_game_values.specs.Bound.{bound_of, product_of}
use Rattle.omega_game_values.specs.Game.{Node, priorities}
use Rattle.omega_lift_laws.specs.Measure.{Measure, IsAbove, IsMeasure, rank}
use Rattle.omega_lift_laws.specs.Allowance.{measure_at}
use Rattle.omega_lift_laws.specs.Run.{IsLiftingRun, IsTable, zero_table}
use Rattle.omega_lift_laws.proofs.Lifting.{total_rank, zero_is_table}
use Rattle.omega_lift_laws.proofs.Ranks.{rank_rises, rank_within}
use Rattle.omega_solve.specs.Turns.{IsRaise, IsRaised, IsRaisingRun, RaisesAreBounded}

-- the table with one measure replaced by another
pub set_keeps_table : (player : Player) (bearing : List ℕ) (old : List Measure) (v : ℕ) (x : Measure) → IsTable player bearing old
    → IsMeasure player bearing x → IsTable player bearing (set old v x)
set_keeps_table player bearing old v x table measure = record {
  entries = length-set old v x ∙ table.entries;
  measures = λ u lt.
      let inside : u < length old = omega (arith, lt, length-set old v x) in
      elim (cases_eq u v) [
        | inl e ↦
            let here : measure_at (set old v x) u ≡ x = ap (measure_at (set old v x)) e ∙ get_or-set_same old v x None (omega arith) in
            subst (IsMeasure player bearing) (sym here) measure
        | inr ne ↦ subst (IsMeasure player bearing) (sym (get_or-set_other old v u x None ne)) (table.measures u inside)
      ];
}

-- what a raise gives is a measure
raise_measure : (nodes : List Node) (player : Player) (table : List Measure) (v : ℕ) (x : Measure) → IsRaise nodes player table v x
    → IsMeasure player (priorities nodes) x
raise_measure nodes player table v x (inl lifts) = lifts.value.allowance.measure
raise_measure nodes player table v x (inr given) = subst (IsMeasure player (priorities nodes)) (sym given.2) tt

-- top is above all others
top_above : (m : Measure) → IsSome m → IsAbove None m
top_above None some = absurd (false≢true some)
top_above (Some xs) some = refl

-- and above the last
raise_above : (nodes : List Node) (player : Player) (table : List Measure) (v : ℕ) (x : Measure) → IsRaise nodes player table v x
    → IsAbove x (measure_at table v)
raise_above nodes player table v x (inl lifts) = lifts.above
raise_above nodes player table v x (inr given) =
    subst (λ (y : Measure). IsAbove y (measure_at table v)) (sym given.2) (top_above (measure_at table v) given.1)

-- runs of raises keep tables
raises_keep_table : (nodes : List Node) (player : Player) (old new : List Measure) (places : List ℕ) → IsTable player (priorities nodes) old
    → IsRaisingRun nodes player old places new → IsTable player (priorities nodes) new
raises_keep_table nodes player old new [] table run = subst (IsTable player (priorities nodes)) run table
raises_keep_table nodes player old new (v ∷ vs) table run =
    raises_keep_table nodes player (set old v run.0) new vs
    (set_keeps_table player (priorities nodes) old v run.0 table (raise_measure nodes player old v run.0 run.2)) run.3

-- each raise adds at least one to the sum of the ranks
raises_add_rank : (nodes : List Node) (player : Player) (old new : List Measure) (places : List ℕ) → IsTable player (priorities nodes) old
    → IsRaisingRun nodes player old places new
    → total_rank player (priorities nodes) old + length places ≤ total_rank player (priorities nodes) new
raises_add_rank nodes player old new [] table run = let e = ap (total_rank player (priorities nodes)) run in omega arith
raises_add_rank nodes player old new (v ∷ vs) table run =
    let within : v < length old = omega (arith, table.entries, length-map nodes (λ (node : Node). node.priority), run.1) in
    let measure = raise_measure nodes player old v run.0 run.2 in
    let rises = rank_rises player (priorities nodes) run.0 (measure_at old v) measure (table.measures v within) (raise_above nodes player old v run.0 run.2) in
    let moved = sum_by-set (rank player (priorities nodes)) old v run.0 None within in
    let rest = raises_add_rank nodes player (set old v run.0) new vs (set_keeps_table player (priorities nodes) old v run.0 table measure) run.3 in
    omega (arith, rises, moved, rest)

-- so there are at most as many as the bound
raises_bounded : (nodes : List Node) (player : Player) (places : List ℕ) (new : List Measure)
    → IsRaisingRun nodes player (zero_table player (priorities nodes)) places new → length places ≤ bound_of player (priorities nodes)
raises_bounded nodes player places new run =
    let bearing : List ℕ = priorities nodes in
    let first = zero_is_table player bearing in
    let last = raises_keep_table nodes player (zero_table player bearing) new places first run in
    let most : All (λ x. rank player bearing x ≤ product_of player bearing) new =
    λ k d lt. subst (λ x. rank player bearing x ≤ product_of player bearing) (get_or_default new k None d lt)
    (rank_within player bearing (measure_at new k) (last.measures k lt)) in
    let sum_at_most : total_rank player bearing new ≤ length bearing * product_of player bearing =
    subst (λ n. total_rank player bearing new ≤ n * product_of player bearing) last.entries
    (sum_by-le (rank player bearing) (product_of player bearing) new most) in
    omega (arith, raises_add_rank nodes player (zero_table player bearing) new places first run, sum_at_most)

pub raised_boundedly : RaisesAreBounded
raised_boundedly nodes player raises table raised = omega (arith, raised.counted, raises_bounded nodes player raised.places table raised.run)

-- a lifting run is one of raises
pub lifts_raise : (nodes : List Node) (player : Player) (old new : List Measure) (places : List ℕ) → IsLiftingRun nodes player old places new
    → IsRaisingRun nodes player old places new
lifts_raise nodes player old new [] run = run
lifts_raise nodes player old new (v ∷ vs) run = (run.0, run.1, inl run.2, lifts_raise nodes player (set old v run.0) new vs run.3)

-- one run after another
raises_append : (nodes : List Node) (player : Player) (old between new : List Measure) (vs us : List ℕ) → IsRaisingRun nodes player old vs between
    → IsRaisingRun nodes player between us new → IsRaisingRun nodes player old (vs ++ us) new
raises_append nodes player old between new [] us run more = subst (λ (t : List Measure). IsRaisingRun nodes player t us new) (sym run) more
raises_append nodes player old between new (v ∷ vs) us run more =
    (run.0, run.1, run.2, raises_append nodes player (set old v run.0) between new vs us run.3 more)

-- at the start
pub raised_start : (nodes : List Node) (player : Player) → IsRaised nodes player 0 (zero_table player (priorities nodes))
raised_start nodes player = record { places = []; run = refl; counted = omega arith }

-- after more of them
pub raised_more : (nodes : List Node) (player : Player) (old new : List Measure) (raises after : ℕ) (more : List ℕ) → IsRaised nodes player raises old
    → IsRaisingRun nodes player old more new → after ≡ min (raises + length more) (2 ^ 64 - 1) → IsRaised nodes player after new
raised_more nodes player old new raises after more raised run count = record {
  places = raised.places ++ more;
  run = raises_append nodes player (zero_table player (priorities nodes)) old new raised.places more raised.run run;
  counted = omega (arith, raised.counted, length-append raised.places more, count);
}
