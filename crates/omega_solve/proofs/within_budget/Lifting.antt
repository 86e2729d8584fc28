-- Lifts in the reordered game are lifts in the original game.
use Rattle.std.proofs.Common.{◌≡◌, ℕ, ◌<◌, inl, inr, List, [], ◌∷◌, None, length, map, get_or, set, sym, ap, subst, ◌∙◌, arith}
use Rattle.std.proofs.lemmas.Bool.{cases_eq}
use Rattle.std.proofs.lemmas.List.{ext_get_or, get_or-map, get_or-set_other, get_or-set_same, get_or-replicate, length-map, length-replicate, length-set}
use Rattle.omega_game_values.specs.declared.player.Player.{Player}
use Rattle.omega_game_values.specs.Game.{Node, IsGame, owner_at, priorities, priority_at}
use Rattle.omega_lift_laws.specs.Allowance.{IsAllowance, IsAllowanceOf, IsLiftValue, measure_at}
use Rattle.omega_lift_laws.specs.Measure.{IsAbove, Measure, zero_measure}
use Rattle.omega_lift_laws.specs.Run.{IsDue, IsLiftingRun, IsStable, Lifts, zero_table}
use Rattle.omega_solve.specs.Solver.{SolverState, IsReached}
use Rattle.omega_solve.specs.budget.Laws.{HasSameLifts}
use Rattle.omega_solve.specs.budget.Reordering.{IsReordering, measures_by_place, state_by_place}
use Rattle.omega_solve.proofs.within_budget.Games.{IsClosed, alike, back_closed, back_reordering, edge_from, edge_here, edge_there, place_below, place_of_position, position_below, position_of_place}
use Rattle.omega_solve.proofs.within_budget.Priorities.{alike_back, allowance_alike, zeros_alike}

module _ (nodes other : List Node) (positions places : List ℕ) (reordering : IsReordering nodes other positions places) (closed : IsClosed nodes) (player : Player) where
  -- the measure at a place is that at its position
  pub measure_here : (table : List Measure) (v : ℕ) → v < length nodes → measure_at (measures_by_place positions table) v ≡ measure_at table (get_or positions v 0)
  measure_here table v lt = get_or-map (measure_at table) positions v 0 None (omega (arith, reordering.positioned))

  -- allowances at positions are those at places
  pub allowance_here : (table : List Measure) (v w : ℕ) (x : Measure) → v < length nodes → w < length nodes
      → IsAllowanceOf other player table (get_or positions v 0) (get_or positions w 0) x → IsAllowanceOf nodes player (measures_by_place positions table) v w x
  allowance_here table v w x lt below is =
      subst (λ (y : Measure). IsAllowance player (priorities nodes) (priority_at nodes v) y x) (sym (measure_here table w below))
      (subst (λ (p : ℕ). IsAllowance player (priorities nodes) p (measure_at table (get_or positions w 0)) x) (reordering.moved v lt).priority
      (allowance_alike player (priorities other) (priorities nodes) (alike_back _ _ (alike nodes other positions places reordering)) _ _ x is))

  pub allowance_there : (table : List Measure) (v w : ℕ) (x : Measure) → v < length nodes → w < length nodes
      → IsAllowanceOf nodes player (measures_by_place positions table) v w x → IsAllowanceOf other player table (get_or positions v 0) (get_or positions w 0) x
  allowance_there table v w x lt below is =
      subst (λ (y : Measure). IsAllowance player (priorities other) (priority_at other (get_or positions v 0)) y x) (measure_here table w below)
      (subst (λ (p : ℕ). IsAllowance player (priorities other) p (measure_at (measures_by_place positions table) w) x) (sym (reordering.moved v lt).priority)
      (allowance_alike player (priorities nodes) (priorities other) (alike nodes other positions places reordering) _ _ x is))

  -- and so are lift values
  value_here : (table : List Measure) (v : ℕ) (x : Measure) → v < length nodes → IsLiftValue other player table (get_or positions v 0) x
      → IsLiftValue nodes player (measures_by_place positions table) v x
  value_here table v x lt value =
      let towards = edge_here nodes other positions places reordering v value.successor lt value.listed in
      let owned : owner_at other (get_or positions v 0) ≡ owner_at nodes v = (reordering.moved v lt).owner in
      record {
        successor = towards.0;
        listed = towards.1;
        allowance = allowance_here table v towards.0 x lt (closed v towards.0 lt towards.1)
            (subst (λ (u : ℕ). IsAllowanceOf other player table (get_or positions v 0) u x) towards.2 value.allowance);
        least = λ mine w y edge allowance.
            value.least (owned ∙ mine) (get_or positions w 0) y (edge_there nodes other positions places reordering v w lt edge)
            (allowance_there table v w y lt (closed v w lt edge) allowance);
        greatest = λ foreign w y edge allowance.
            value.greatest (λ mine. foreign (sym owned ∙ mine)) (get_or positions w 0) y (edge_there nodes other positions places reordering v w lt edge)
            (allowance_there table v w y lt (closed v w lt edge) allowance);
      }

  -- a lift at a position is one at the place
  pub lifts_here : (table : List Measure) (v : ℕ) (x : Measure) → v < length nodes → Lifts other player table (get_or positions v 0) x
      → Lifts nodes player (measures_by_place positions table) v x
  lifts_here table v x lt lifts = record {
    value = value_here table v x lt lifts.value;
    above = subst (IsAbove x) (sym (measure_here table v lt)) lifts.above;
  }

  pub lifts_at_place : (table : List Measure) (r : ℕ) (x : Measure) → r < length other → Lifts other player table r x
      → Lifts nodes player (measures_by_place positions table) (get_or places r 0) x
  lifts_at_place table r x lt lifts =
      lifts_here table (get_or places r 0) x (place_below nodes other positions places reordering r lt)
      (subst (λ (i : ℕ). Lifts other player table i x) (sym (position_of_place nodes other positions places reordering r lt)) lifts)

  -- a measure written at a position is written at the place
  set_here : (table : List Measure) (r : ℕ) (x : Measure) → length table ≡ length other → r < length other
      → measures_by_place positions (set table r x) ≡ set (measures_by_place positions table) (get_or places r 0) x
  set_here table r x long lt = ext_get_or None _ _ even entry
    where
      here : List Measure
      here = measures_by_place positions table

      place : ℕ
      place = get_or places r 0

      even : length (measures_by_place positions (set table r x)) ≡ length (set (measures_by_place positions table) (get_or places r 0) x)
      even =
          length-map positions (measure_at (set table r x))
          ∙ sym (length-set (measures_by_place positions table) (get_or places r 0) x ∙ length-map positions (measure_at table))

      entry : (k : ℕ) → k < length (measures_by_place positions (set table r x))
          → get_or (measures_by_place positions (set table r x)) k None ≡ get_or (set (measures_by_place positions table) (get_or places r 0) x) k None
      entry k below = elim (cases_eq k (get_or places r 0)) [
        | inl e ↦
            let back : get_or positions k 0 ≡ r = ap (λ (v : ℕ). get_or positions v 0) e ∙ position_of_place nodes other positions places reordering r lt in
            measure_here (set table r x) k small
            ∙ ap (λ (i : ℕ). get_or (set table r x) i None) back
            ∙ get_or-set_same table r x None (omega (arith, long))
            ∙ sym (ap (λ (i : ℕ). get_or (set (measures_by_place positions table) (get_or places r 0) x) i None) e
            ∙ get_or-set_same (measures_by_place positions table) (get_or places r 0) x None (omega (arith, e, small, reordering.positioned, length-map positions (measure_at table))))
        | inr away ↦
            measure_here (set table r x) k small
            ∙ get_or-set_other table r (get_or positions k 0) x None (λ same. away (sym (place_of_position nodes other positions places reordering k small) ∙ ap (λ (i : ℕ). get_or places i 0) same))
            ∙ sym (get_or-set_other (measures_by_place positions table) (get_or places r 0) k x None away ∙ measure_here table k small)
      ]
        where
          small : k < length nodes
          small = omega (arith, below, length-map positions (measure_at (set table r x)), reordering.positioned)

  -- a lifting run of the reordered game is one of the original game
  pub run_here : (old new : List Measure) (positioned : List ℕ) → length old ≡ length other → IsLiftingRun other player old positioned new
      → IsLiftingRun nodes player (measures_by_place positions old) (map (λ r. get_or places r 0) positioned) (measures_by_place positions new)
  run_here old new [] long run = ap (measures_by_place positions) run
  run_here old new (r ∷ positioned) long (x, lt, lifts, run) = (
    x,
    place_below nodes other positions places reordering r lt,
    lifts_at_place old r x lt lifts,
    subst (λ (table : List Measure). IsLiftingRun nodes player table (map (λ i. get_or places i 0) positioned) (measures_by_place positions new)) (set_here old r x long lt)
        (run_here (set old r x) new positioned (length-set old r x ∙ long) run),
  )

  -- the all-zero table by place is the all-zero table
  pub zeros_here : measures_by_place positions (zero_table player (priorities other)) ≡ zero_table player (priorities nodes)
  zeros_here = ext_get_or None _ _ even entry
    where
      sizes : length (priorities nodes) ≡ length nodes
      sizes = length-map nodes (λ (node : Node). node.priority)

      even : length (measures_by_place positions (zero_table player (priorities other))) ≡ length (zero_table player (priorities nodes))
      even =
          length-map positions (measure_at (zero_table player (priorities other)))
          ∙ (reordering.positioned ∙ sym (length-replicate (length (priorities nodes)) (zero_measure player (priorities nodes)) ∙ sizes))

      entry : (k : ℕ) → k < length (measures_by_place positions (zero_table player (priorities other)))
          → get_or (measures_by_place positions (zero_table player (priorities other))) k None ≡ get_or (zero_table player (priorities nodes)) k None
      entry k below =
          let small : k < length nodes = omega (arith, below, length-map positions (measure_at (zero_table player (priorities other))), reordering.positioned) in
          let there : get_or positions k 0 < length (priorities other) =
          omega (arith, position_below nodes other positions places reordering k small, length-map other (λ (node : Node). node.priority)) in
          measure_here (zero_table player (priorities other)) k small
          ∙ get_or-replicate (length (priorities other)) (get_or positions k 0) (zero_measure player (priorities other)) None there
          ∙ sym (zeros_alike player (priorities nodes) (priorities other) (alike nodes other positions places reordering))
          ∙ sym (get_or-replicate (length (priorities nodes)) k (zero_measure player (priorities nodes)) None (omega (arith, small, sizes)))

  -- a table by place, by position again
  pub table_back : (table : List Measure) → length table ≡ length other → measures_by_place places (measures_by_place positions table) ≡ table
  table_back table long = ext_get_or None _ _ even entry
    where
      even : length (measures_by_place places (measures_by_place positions table)) ≡ length table
      even = length-map places (measure_at (measures_by_place positions table)) ∙ (reordering.placed ∙ sym (long ∙ reordering.entries))

      entry : (k : ℕ) → k < length (measures_by_place places (measures_by_place positions table))
          → get_or (measures_by_place places (measures_by_place positions table)) k None ≡ get_or table k None
      entry k below =
          let small : k < length other = omega (arith, below, even, long) in
          get_or-map (measure_at (measures_by_place positions table)) places k 0 None (omega (arith, small, reordering.placed, reordering.entries))
          ∙ measure_here table (get_or places k 0) (place_below nodes other positions places reordering k small)
          ∙ ap (measure_at table) (position_of_place nodes other positions places reordering k small)

  -- if a lift is due at a position, one is due at the place
  pub due_here : (table : List Measure) (r : ℕ) → IsDue other player table r → IsDue nodes player (measures_by_place positions table) (get_or places r 0)
  due_here table r due =
      (due.0, lifts_at_place table r due.0 (edge_from other r due.1.value.successor due.1.value.listed) due.1)

-- if none is due at any position, none is due at any place
pub stable_here : (nodes other : List Node) (positions places : List ℕ) (reordering : IsReordering nodes other positions places) (closed : IsClosed nodes) (player : Player)
    (table : List Measure) → length table ≡ length other → IsStable other player table → IsStable nodes player (measures_by_place positions table)
stable_here nodes other positions places reordering closed player table long stable v lt due =
    let there = due_here other nodes places positions (back_reordering nodes other positions places reordering closed) (back_closed nodes other positions places reordering closed) player
    (measures_by_place positions table) v due in
    stable (get_or positions v 0) (position_below nodes other positions places reordering v lt)
    (subst (λ (t : List Measure). IsDue other player t (get_or positions v 0)) (table_back nodes other positions places reordering closed player table long) there)

-- a lifting run keeps the number of measures
pub run_long : (nodes : List Node) (player : Player) (old new : List Measure) (positioned : List ℕ) → IsLiftingRun nodes player old positioned new → length new ≡ length old
run_long nodes player old new [] run = ap length (sym run)
run_long nodes player old new (r ∷ positioned) (x, lt, lifts, run) = run_long nodes player (set old r x) new positioned run ∙ length-set old r x

-- a state of a solver for the reordered game, restated by place, has the same lifts
pub follows : (nodes : List Node) (positions places : List ℕ) (state : SolverState) → IsGame nodes → IsReordering nodes state.nodes positions places → IsReached state
    → HasSameLifts state (state_by_place nodes positions state)
follows nodes positions places state game reordering reached = record {
  reached = record {
    places = map (λ r. get_or places r 0) reached.places;
    lifted = subst (λ (table : List Measure). IsLiftingRun nodes state.player table (map (λ r. get_or places r 0) reached.places) (measures_by_place positions state.table.measures))
        (zeros_here nodes state.nodes positions places reordering closed state.player)
        (run_here nodes state.nodes positions places reordering closed state.player _ _ reached.places start_long reached.lifted);
    counted = length-map reached.places (λ r. get_or places r 0) ∙ reached.counted;
  };
  finished = λ stable. stable_here nodes state.nodes positions places reordering closed state.player state.table.measures long stable;
  due = λ due. (get_or places due.0 0, due_here nodes state.nodes positions places reordering closed state.player state.table.measures due.0 due.1);
}
  where
    closed : IsClosed nodes
    closed v w lt edge = game.closed v w edge

    start_long : length (zero_table state.player (priorities state.nodes)) ≡ length state.nodes
    start_long =
        length-replicate (length (priorities state.nodes)) (zero_measure state.player (priorities state.nodes))
        ∙ length-map state.nodes (λ (node : Node). node.priority)

    long : length state.table.measures ≡ length state.nodes
    long = run_long state.nodes state.player _ state.table.measures reached.places reached.lifted ∙ start_long
