-- Lifting runs keep tables, and their length is bounded by the sum of ranks.
use Rattle.std.proofs.Common.{◌≡◌, ℕ, ◌+◌, ◌*◌, ◌<◌, ◌≤◌, ◌==◌, cond, None, List, [], ◌∷◌, length, replicate, set, get_or, sum_by, count_by, All, ◌⊎◌, inl, inr, sym, ap, ◌∙◌, subst, arith}
use Rattle.std.proofs.lemmas.Bool.{cases_eq, cases_lt, eq-eqb, ne_eqb}
use Rattle.std.proofs.lemmas.List.{length-map, length-set, length-replicate, get_or-replicate, get_or-set_same, get_or-set_other, get_or_past, get_or_default}
use Rattle.std.proofs.lemmas.List.Sums.{sum_by-set, sum_by-le, sum_by-cons}
use Rattle.omega_game_values.specs.declared.player.Player.{Player}
use Rattle.omega_game_values.specs.Bound.{occurrences, bound_of, losing_priorities, product_of}
use Rattle.omega_game_values.specs.Game.{Node, priorities}
use Rattle.omega_lift_laws.specs.Measure.{Measure, AreEntries, IsMeasure, rank, zero_measure}
use Rattle.omega_lift_laws.specs.Allowance.{measure_at}
use Rattle.omega_lift_laws.specs.Run.{Lifts, IsLiftingRun, IsTable, zero_table}
use Rattle.omega_lift_laws.proofs.Counting.{counted_once}
use Rattle.omega_lift_laws.proofs.Ranks.{rank_rises, rank_within}

-- the entry of a table at a place, past its end too, is a measure
pub measure_at_is :
    (player : Player) (bearing : List ℕ) (table : List Measure) → IsTable player bearing table → (v : ℕ)
    → IsMeasure player bearing (measure_at table v)
measure_at_is player bearing table h v = go (cases_lt v (length table))
  where
    go : (v < length table) ⊎ (length table ≤ v) → IsMeasure player bearing (measure_at table v)
    go (inl lt) = h.measures v lt
    go (inr le) = subst (IsMeasure player bearing) (sym (get_or_past table v None le)) tt

-- after a lift there is a table again
pub lift_keeps_table :
    (nodes : List Node) (player : Player) (table : List Measure) (v : ℕ) (x : Measure)
    → IsTable player (priorities nodes) table → Lifts nodes player table v x → IsTable player (priorities nodes) (set table v x)
lift_keeps_table nodes player table v x h l = record {
  entries = length-set table v x ∙ h.entries;
  measures = measures;
}
  where
    measures : (u : ℕ) → u < length (set table v x) → IsMeasure player (priorities nodes) (measure_at (set table v x) u)
    measures u lt = go (cases_eq u v)
      where
        within : u < length table
        within = omega (arith, length-set table v x)

        go : (u ≡ v) ⊎ (u ≡ v → ⊥) → IsMeasure player (priorities nodes) (measure_at (set table v x) u)
        go (inl e) =
            subst (λ w. IsMeasure player (priorities nodes) (measure_at (set table v x) w)) (sym e)
            (subst (IsMeasure player (priorities nodes)) (sym (get_or-set_same table v x None (omega (arith, within, e)))) l.value.allowance.measure)
        go (inr n) = subst (IsMeasure player (priorities nodes)) (sym (get_or-set_other table v u x None n)) (h.measures u within)

pub run_keeps_table :
    (nodes : List Node) (player : Player) (old new : List Measure) (places : List ℕ)
    → IsTable player (priorities nodes) old → IsLiftingRun nodes player old places new → IsTable player (priorities nodes) new
run_keeps_table nodes player old new [] h r = subst (IsTable player (priorities nodes)) r h
run_keeps_table nodes player old new (v ∷ vs) h r =
    run_keeps_table nodes player (set old v r.0) new vs (lift_keeps_table nodes player old v r.0 h r.2) r.3

-- the all-zero table is one
pub zero_is_table : (player : Player) (bearing : List ℕ) → IsTable player bearing (zero_table player bearing)
zero_is_table player bearing = record {
  entries = length-replicate (length bearing) (zero_measure player bearing);
  measures = measures;
}
  where
    count : ℕ
    count = length (losing_priorities player bearing)

    limits :
        (k : ℕ) → k < length (replicate {A = ℕ} count 0)
        → get_or (replicate {A = ℕ} count 0) k 0 ≤ occurrences bearing (get_or (losing_priorities player bearing) k 0)
    limits k lt =
        let within : k < count = omega (arith, length-replicate {A = ℕ} count 0) in
        omega (arith, get_or-replicate {A = ℕ} count k 0 0 within)

    entries : AreEntries player bearing (replicate count 0)
    entries = record {
      count = length-replicate {A = ℕ} count 0;
      limits = limits;
    }

    measures :
        (v : ℕ) → v < length (zero_table player bearing)
        → IsMeasure player bearing (measure_at (zero_table player bearing) v)
    measures v lt =
        subst (IsMeasure player bearing)
        (sym (get_or-replicate (length bearing) v (zero_measure player bearing) None (omega (arith, length-replicate (length bearing) (zero_measure player bearing)))))
        entries

-- the sum of the ranks of a table
abbrev pub total_rank : Player → List ℕ → List Measure → ℕ
total_rank player bearing table = sum_by (rank player bearing) table

-- each entry of a run adds at least one to the sum of the ranks
pub run_adds_rank :
    (nodes : List Node) (player : Player) (old new : List Measure) (places : List ℕ)
    → IsTable player (priorities nodes) old → IsLiftingRun nodes player old places new
    → total_rank player (priorities nodes) old + length places ≤ total_rank player (priorities nodes) new
run_adds_rank nodes player old new [] h r = let e = ap (total_rank player (priorities nodes)) r in omega arith
run_adds_rank nodes player old new (v ∷ vs) h r =
    let within : v < length old = omega (arith, h.entries, length-map nodes (λ node. node.priority), r.1) in
    let rises = rank_rises player (priorities nodes) r.0 (measure_at old v) r.2.value.allowance.measure (h.measures v within) r.2.above in
    let moved = sum_by-set (rank player (priorities nodes)) old v r.0 None within in
    let rest = run_adds_rank nodes player (set old v r.0) new vs (lift_keeps_table nodes player old v r.0 h r.2) r.3 in
    omega (arith, rises, moved, rest)

pub run_is_bounded :
    (nodes : List Node) (player : Player) (places : List ℕ) (new : List Measure)
    → IsLiftingRun nodes player (zero_table player (priorities nodes)) places new → length places ≤ bound_of player (priorities nodes)
run_is_bounded nodes player places new r =
    let bearing : List ℕ = priorities nodes in
    let first = zero_is_table player bearing in
    let last = run_keeps_table nodes player (zero_table player bearing) new places first r in
    let most : All (λ x. rank player bearing x ≤ product_of player bearing) new =
    λ k d lt. subst (λ x. rank player bearing x ≤ product_of player bearing) (get_or_default new k None d lt)
    (rank_within player bearing (measure_at new k) (last.measures k lt)) in
    let sum_at_most : total_rank player bearing new ≤ length bearing * product_of player bearing =
    subst (λ n. total_rank player bearing new ≤ n * product_of player bearing) last.entries
    (sum_by-le (rank player bearing) (product_of player bearing) new most) in
    omega (arith, run_adds_rank nodes player (zero_table player bearing) new places first r, sum_at_most)

-- each time that a place is lifted its rank grows
pub run_adds_rank_at :
    (nodes : List Node) (player : Player) (old new : List Measure) (places : List ℕ) (v : ℕ)
    → IsTable player (priorities nodes) old → IsLiftingRun nodes player old places new
    → rank player (priorities nodes) (measure_at old v) + count_by (λ u. u == v) places ≤ rank player (priorities nodes) (measure_at new v)
run_adds_rank_at nodes player old new [] v h r =
    let e = ap (λ table. rank player (priorities nodes) (measure_at table v)) r in omega arith
run_adds_rank_at nodes player old new (u ∷ us) v h r =
    step (run_adds_rank_at nodes player (set old u r.0) new us v (lift_keeps_table nodes player old u r.0 h r.2) r.3) (cases_eq v u)
  where
    bearing : List ℕ
    bearing = priorities nodes

    counted : count_by (λ w. w == v) (u ∷ us) ≡ counted_once (u == v) + count_by (λ w. w == v) us
    counted = sum_by-cons (λ w. cond (w == v) 1 0) u us

    within : u < length old
    within = omega (arith, h.entries, length-map nodes (λ node. node.priority), r.1)

    step :
        rank player bearing (measure_at (set old u r.0) v) + count_by (λ w. w == v) us ≤ rank player bearing (measure_at new v)
        → (v ≡ u) ⊎ (v ≡ u → ⊥)
        → rank player bearing (measure_at old v) + count_by (λ w. w == v) (u ∷ us) ≤ rank player bearing (measure_at new v)
    step rest (inl e) =
        let one : counted_once (u == v) ≡ 1 = ap counted_once (eq-eqb u v (sym e)) in
        let rises : rank player bearing (measure_at old v) < rank player bearing r.0 =
        subst (λ w. rank player bearing (measure_at old w) < rank player bearing r.0) (sym e)
        (rank_rises player bearing r.0 (measure_at old u) r.2.value.allowance.measure (h.measures u within) r.2.above) in
        let written : rank player bearing (measure_at (set old u r.0) v) ≡ rank player bearing r.0 =
        subst (λ w. rank player bearing (measure_at (set old u r.0) w) ≡ rank player bearing r.0) (sym e)
        (ap (rank player bearing) (get_or-set_same old u r.0 None within)) in
        omega (arith, counted, one, rises, written, rest)
    step rest (inr n) =
        let none : counted_once (u == v) ≡ 0 = ap counted_once (ne_eqb u v (λ e. n (sym e))) in
        let same : rank player bearing (measure_at (set old u r.0) v) ≡ rank player bearing (measure_at old v) =
        ap (rank player bearing) (get_or-set_other old u v r.0 None n) in
        omega (arith, counted, none, same, rest)

pub place_is_lifted_boundedly :
    (nodes : List Node) (player : Player) (places : List ℕ) (new : List Measure) (v : ℕ)
    → IsLiftingRun nodes player (zero_table player (priorities nodes)) places new
    → count_by (λ u. u == v) places ≤ product_of player (priorities nodes)
place_is_lifted_boundedly nodes player places new v r =
    let first = zero_is_table player (priorities nodes) in
    let last = run_keeps_table nodes player (zero_table player (priorities nodes)) new places first r in
    omega (
      arith,
      run_adds_rank_at nodes player (zero_table player (priorities nodes)) new places v first r,
      rank_within player (priorities nodes) (measure_at new v) (measure_at_is player (priorities nodes) new last v),
    )
