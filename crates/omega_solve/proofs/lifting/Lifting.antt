-- What a solver keeps holds after a lift and after a take.
use Rattle.std.proofs.Common.{◌≡◌, ◌≢◌, ℕ, ◌+◌, ◌-◌, ◌*◌, ◌<◌, ◌≤◌, ◌⊎◌, zero, suc, replicate, Bool, true, false, List, [], ◌∷◌, ◌++◌, None, Some, length, refl, sym, ap, ◌∙◌, subst, arith, set, slice_index, inl, inr}
use Rattle.std.specs.List.{count_by, slice_get}
use Rattle.std.specs.Option.{IsSome}
use Rattle.std.proofs.lemmas.Bool.{cases_eq, cases_lt}
use Rattle.std.proofs.lemmas.List.{get_or-set_other, get_or-set_same, get_or_default, length-append, length-replicate, length-set}
use Rattle.std.proofs.lemmas.List.Folds.{sum_by-replicate}
use Rattle.std.proofs.lemmas.List.Sums.{count_by-le-length, sum_by-append, sum_by-cons}
use Rattle.std.proofs.Math.Nat.{mul-le-mul_left}
use Rattle.omega_game_values.specs.declared.player.Player.{Player}
use Rattle.omega_game_values.specs.declared.player.Player.TheVariants.{One, Zero}
use Rattle.omega_game_values.specs.Game.{Node, HasEdge, owner_at, predecessors_of, priorities, priority_at, successors_at}
use Rattle.omega_lift_laws.specs.Measure.{Measure, IsAbove}
use Rattle.omega_lift_laws.specs.Allowance.{IsAllowance, IsAllowanceOf, IsLiftValue, measure_at}
use Rattle.omega_lift_laws.specs.Run.{IsDue, IsLiftingRun, IsTable, Lifts}
use Rattle.omega_lift_laws.specs.Laws.{AllowancesAreUnique, RunsKeepTables}
use Rattle.omega_measure.specs.Table.{Content, Exceeds, Raises, with_measure}
use Rattle.omega_lift_schedules.specs.Schedule.{IsPending, Pending, with_taken, waits}
use Rattle.omega_lift_schedules.proofs.Flags.{pending_taken, waits_taken}
use Rattle.omega_solve.specs.Limits.{most_lifts}
use Rattle.omega_solve.specs.Solver.{LiftsWithin, SolverState}
use Rattle.omega_solve.specs.private.solving.Successor.{IsDueTowards, IsTableOf}
use Rattle.omega_solve.specs.private.solving.Repeating.{LiftsAgain}
use Rattle.omega_solve.specs.private.solving.Wake.{Wakes}
use Rattle.omega_solve.specs.private.solving.Progress.{IsLifted, IsSolving, in_degree}
use Rattle.omega_solve.proofs.lifting.Due.{allowance_in, allowance_of, table_entries}
use Rattle.omega_solve.proofs.lifting.Edges.{contained, edge_from_predecessor, edge_leaves}

-- a run goes on by one lift
pub run_more : (nodes : List Node) (player : Player) (old table : List Measure) (places : List ℕ) (v : ℕ) (x : Measure)
    → IsLiftingRun nodes player old places table → v < length nodes → Lifts nodes player table v x
    → IsLiftingRun nodes player old (places ++ v ∷ []) (set table v x)
run_more nodes player old table [] v x same lt lifts =
    subst (λ (start : List Measure). IsLiftingRun nodes player start (v ∷ []) (set table v x)) (sym same) (x, lt, lifts, refl)
run_more nodes player old table (u ∷ us) v x lifted lt lifts =
    (lifted.0, lifted.1, lifted.2, run_more nodes player (set old u lifted.0) table us v x lifted.3 lt lifts)

-- a lift value stays one if the measures of the successors are the same
value_kept : (nodes : List Node) (player : Player) (table other : List Measure) (u : ℕ) (y : Measure)
    → ((w : ℕ) → HasEdge nodes u w → measure_at other w ≡ measure_at table w)
    → IsLiftValue nodes player other u y → IsLiftValue nodes player table u y
value_kept nodes player table other u y same value = record {
  successor = value.successor;
  listed = value.listed;
  allowance = moved value.successor y (same value.successor value.listed) value.allowance;
  least = λ own w z edge allows. value.least own w z edge (moved_back w z (same w edge) allows);
  greatest = λ not_own w z edge allows. value.greatest not_own w z edge (moved_back w z (same w edge) allows);
}
  where
    moved : (w : ℕ) (z : Measure) → measure_at other w ≡ measure_at table w
        → IsAllowanceOf nodes player other u w z → IsAllowanceOf nodes player table u w z
    moved w z e h = subst (λ (m : Measure). IsAllowance player (priorities nodes) (priority_at nodes u) m z) e h

    moved_back : (w : ℕ) (z : Measure) → measure_at other w ≡ measure_at table w
        → IsAllowanceOf nodes player table u w z → IsAllowanceOf nodes player other u w z
    moved_back w z e h = subst (λ (m : Measure). IsAllowance player (priorities nodes) (priority_at nodes u) m z) (sym e) h

-- lifting v changes no measure of a place's successors, if v is not one of them
others_kept : (nodes : List Node) (table : List Measure) (u v : ℕ) (x : Measure) → ¬ HasEdge nodes u v
    → (w : ℕ) → HasEdge nodes u w → measure_at (set table v x) w ≡ measure_at table w
others_kept nodes table u v x apart w edge =
    get_or-set_other table v w x None (λ (e : w ≡ v). apart (subst (λ (place : ℕ). HasEdge nodes u place) e edge))

-- then a lift that is due at another place was due before
pub due_before : (nodes : List Node) (player : Player) (table other : List Measure) (u v : ℕ)
    → ((w : ℕ) → w ≢ v → measure_at other w ≡ measure_at table w) → ¬ HasEdge nodes u v → u ≢ v
    → IsDue nodes player other u → IsDue nodes player table u
due_before nodes player table other u v kept apart ne due = (
  due.0,
  record {
    value = value_kept nodes player table other u due.0
        (λ w edge. kept w (λ (e : w ≡ v). apart (subst (λ (place : ℕ). HasEdge nodes u place) e edge)))
        due.1.value;
    above = subst (λ (m : Measure). IsAbove due.0 m) (kept u ne) due.1.above;
  },
)

-- two players are the same or not
same_player_or_not : (one other : Player) → (one ≡ other) ⊎ (one ≢ other)
same_player_or_not Zero Zero = inl refl
same_player_or_not Zero One = inr (λ e. cc)
same_player_or_not One Zero = inr (λ e. cc)
same_player_or_not One One = inl refl

-- and none is due at v itself
not_due_again : (nodes : List Node) (player : Player) (table : List Measure) (v : ℕ) (x : Measure) → ¬ HasEdge nodes v v
    → v < length table → Lifts nodes player table v x → ¬ IsDue nodes player (set table v x) v
not_due_again nodes player table v x apart lt lifts due =
    let same : measure_at (set table v x) v ≡ x = get_or-set_same table v x None lt in
    let above : IsAbove due.0 x = subst (λ (m : Measure). IsAbove due.0 m) same due.1.above in
    let value = value_kept nodes player table (set table v x) v due.0 (others_kept nodes table v v x apart) due.1.value in
    elim (same_player_or_not (owner_at nodes v) player) [
      | inl own ↦ value.least own lifts.value.successor x lifts.value.listed lifts.value.allowance above
      | inr other ↦ lifts.value.greatest other value.successor due.0 value.listed value.allowance above
    ]

-- a place at which a lift is due is below top
pub due_below_top : (x y : Measure) → IsAbove x y → IsSome y
due_below_top None None above = absurd (let e = above in cc)
due_below_top (Some xs) None above = absurd (let e = above in cc)
due_below_top x (Some ys) above = refl

-- a run of lifts of v changes no other measure
run_elsewhere : (nodes : List Node) (player : Player) (old new : List Measure) (v count : ℕ)
    → IsLiftingRun nodes player old (replicate count v) new → (w : ℕ) → w ≢ v → measure_at new w ≡ measure_at old w
run_elsewhere nodes player old new v zero same w ne = ap (λ (t : List Measure). measure_at t w) (sym same)
run_elsewhere nodes player old new v (suc count) lifted w ne =
    run_elsewhere nodes player (set old v lifted.0) new v count lifted.3 w ne ∙ get_or-set_other old v w lifted.0 None ne

-- a run of no lifts changes none
run_nowhere : (nodes : List Node) (player : Player) (old new : List Measure) (v count : ℕ) → count ≡ 0
    → IsLiftingRun nodes player old (replicate count v) new → old ≡ new
run_nowhere nodes player old new v count none lifted = subst (λ (n : ℕ). IsLiftingRun nodes player old (replicate n v) new) none lifted

-- after lifts of v, and with its predecessors woken, each place at which a lift is due is pending
pub due_pending : (nodes : List Node) (player : Player) (table other : List Measure) (old again new : Pending) (v count : ℕ) (x : Measure)
    → v < length table → Lifts nodes player table v x
    → IsLiftingRun nodes player (set table v x) (replicate count v) other → (0 < count → HasEdge nodes v v)
    → ((u : ℕ) → IsDue nodes player table u → IsPending old u)
    → again.flags ≡ (with_taken old v).flags
    → Wakes other (predecessors_of nodes v) (length (predecessors_of nodes v)) again new
    → (u : ℕ) → IsDue nodes player other u → IsPending new u
due_pending nodes player table other old again new v count x lt lifts more looped pending flags wakes u due =
    elim (contained (successors_at nodes u) v) [
      | inl edge ↦
          let at = edge_from_predecessor nodes u v edge in
          let here : slice_index (predecessors_of nodes v) at.0 ≡ u = get_or_default (predecessors_of nodes v) at.0 0 u at.1 ∙ at.2 in
          let some : IsSome (measure_at other u) = due_below_top due.0 (measure_at other u) due.1.above in
          subst (λ (place : ℕ). IsPending new place) here
          (wakes.woken at.0 at.1 (subst (λ (place : ℕ). IsSome (measure_at other place)) (sym here) some))
      | inr apart ↦ elim (cases_eq u v) [
        | inl e ↦
            let alone : ¬ HasEdge nodes v v = subst (λ (place : ℕ). ¬ HasEdge nodes place v) e apart in
            let none : count ≡ 0 = elim (cases_lt 0 count) [
              | inl some ↦ absurd (alone (looped some))
              | inr none ↦ omega arith
            ] in
            let same = run_nowhere nodes player (set table v x) other v count none more in
            let again_due : IsDue nodes player (set table v x) v =
            subst (λ (t : List Measure). IsDue nodes player t v) (sym same) (subst (λ (place : ℕ). IsDue nodes player other place) e due) in
            absurd (not_due_again nodes player table v x alone lt lifts again_due)
        | inr ne ↦
            let kept = λ (w : ℕ) (away : w ≢ v).
            run_elsewhere nodes player (set table v x) other v count more w away ∙ get_or-set_other table v w x None away in
            let before = pending_taken old v u ne (pending u (due_before nodes player table other u v kept apart ne due)) in
            wakes.kept u (subst (λ (marks : List Bool). slice_get marks u ≡ Some true) (sym flags) before)
      ]
    ]

-- if a lift is due towards w, the allowance towards w exceeds the measure
pub due_exceeds : (nodes : List Node) (player : Player) (content : Content) (v w : ℕ) → IsTableOf nodes player content
    → IsDueTowards nodes player content.measures v w → Exceeds content v w
due_exceeds nodes player content v w table due = record {
  allowance = due.value;
  is = allowance_in nodes player content v w due.value table (edge_leaves nodes v w due.listed) due.allowance;
  above = due.lifts.above;
}

-- the measures after a raise towards the successor that decides the lift value
pub raised : (nodes : List Node) (player : Player) (old new : Content) (v w : ℕ) → AllowancesAreUnique → IsTableOf nodes player old
    → (due : IsDueTowards nodes player old.measures v w) → Raises old v w new
    → new ≡ with_measure old v due.value
raised nodes player old new v w unique table due raises =
    let place = edge_leaves nodes v w due.listed in
    let same : raises.allowance ≡ due.value =
    unique player (priorities nodes) (priority_at nodes v) (measure_at old.measures w) raises.allowance due.value
    (allowance_of nodes player old v w raises.allowance table place raises.is) due.allowance in
    raises.replaced ∙ ap (λ (x : Measure). with_measure old v x) same

-- they are a table of the game
pub table_raised : (nodes : List Node) (player : Player) (old new : Content) (v w : ℕ) → AllowancesAreUnique → RunsKeepTables
    → IsTableOf nodes player old → IsDueTowards nodes player old.measures v w → Raises old v w new
    → IsTableOf nodes player new
table_raised nodes player old new v w unique keep table due raises =
    let now = raised nodes player old new v w unique table due raises in
    record {
      same_player = ap (λ (c : Content). c.player) now ∙ table.same_player;
      same_priorities = ap (λ (c : Content). c.priorities) now ∙ table.same_priorities;
      is_table = subst (λ (t : List Measure). IsTable player (priorities nodes) t) (sym (ap (λ (c : Content). c.measures) now))
          (keep nodes player old.measures (set old.measures v due.value) (v ∷ []) table.is_table
          (due.value, edge_leaves nodes v w due.listed, due.lifts, refl));
    }

-- one run after another
pub run_append : (nodes : List Node) (player : Player) (old table new : List Measure) (places more : List ℕ)
    → IsLiftingRun nodes player old places table → IsLiftingRun nodes player table more new → IsLiftingRun nodes player old (places ++ more) new
run_append nodes player old table new [] more same on =
    subst (λ (start : List Measure). IsLiftingRun nodes player start more new) (sym same) on
run_append nodes player old table new (u ∷ us) more lifted on =
    (lifted.0, lifted.1, lifted.2, run_append nodes player _ table new us more lifted.3 on)

-- a raise and further lifts of the same place are a run
pub run_raised : (nodes : List Node) (player : Player) (old new content : Content) (v w count : ℕ) → AllowancesAreUnique
    → IsTableOf nodes player old → IsDueTowards nodes player old.measures v w → Raises old v w new
    → IsLiftingRun nodes player new.measures (replicate count v) content.measures
    → IsLiftingRun nodes player old.measures (v ∷ replicate count v) content.measures
run_raised nodes player old new content v w count unique table due raises more =
    let now = raised nodes player old new v w unique table due raises in (
      due.value,
      edge_leaves nodes v w due.listed,
      due.lifts,
      subst (λ (t : List Measure). IsLiftingRun nodes player t (replicate count v) content.measures) (ap (λ (c : Content). c.measures) now) more,
    )

-- what is counted once for each is at most what each counts
at_least_each : (count each : ℕ) → (0 < count → 0 < each) → count ≤ count * each
at_least_each count each some = elim (cases_lt 0 count) [
  | inl more ↦
      let one : 1 ≤ each = some more in
      omega (arith, mul-le-mul_left count one)
  | inr none ↦ omega arith
]

-- what a solver keeps holds after a lift, the take, further lifts of the same place, and the waking of the predecessors
pub solving_lifted : (state : SolverState) (v w count : ℕ) (new content : Content) (again pending : Pending)
    → AllowancesAreUnique
    → IsSolving state → IsDueTowards state.nodes state.player state.table.measures v w → IsPending state.pending v
    → state.lifts + (1 + count) ≤ most_lifts
    → Raises state.table v w new
    → LiftsAgain state.nodes state.player v count new content (with_taken state.pending v) again
    → Wakes content.measures (predecessors_of state.nodes v) (length (predecessors_of state.nodes v)) again pending
    → IsSolving (record { nodes = state.nodes; player = state.player; table = content; pending = pending; lifts = state.lifts + (1 + count); done = state.done })
solving_lifted state v w count new content again pending unique s due waiting room raises more wakes =
    let nodes = state.nodes in
    let place = edge_leaves nodes v w due.listed in
    let here : v < length state.table.measures = omega (arith, table_entries nodes state.player state.table s.content) in
    let now = raised nodes state.player state.table new v w unique s.content due raises in
    let from = subst (λ (t : List Measure). IsLiftingRun nodes state.player t (replicate count v) content.measures)
    (ap (λ (c : Content). c.measures) now) more.lifted in
    let degree = in_degree nodes v in
    let degrees = sum_by-append (in_degree nodes) s.places (v ∷ replicate count v) in
    let first = sum_by-cons (in_degree nodes) v (replicate count v) in
    let rest = sum_by-replicate (in_degree nodes) count v in
    let each : count ≤ count * degree = at_least_each count degree
    (λ some. let at = edge_from_predecessor nodes v v (more.looped some) in omega (arith, at.1)) in
    let same : waits again ≡ waits (with_taken state.pending v) = ap (λ (marks : List Bool). count_by (λ flag. flag) marks) more.flags in
    record {
      game = s.game;
      limits = s.limits;
      content = more.table;
      places = s.places ++ (v ∷ replicate count v);
      lifted = run_append nodes state.player _ state.table.measures content.measures s.places (v ∷ replicate count v) s.lifted
          (run_raised nodes state.player state.table new content v w count unique s.content due raises more.lifted);
      counted = omega (arith, length-append s.places (v ∷ replicate count v), length-replicate count v, s.counted);
      few = room;
      entries = wakes.entries ∙ (ap (λ (marks : List Bool). length marks) more.flags ∙ (length-set state.pending.flags v _ ∙ s.entries));
      due = due_pending nodes state.player state.table.measures content.measures state.pending again pending v count due.value here due.lifts
          from more.looped s.due more.flags wakes;
      most = omega (arith, s.most, wakes.taken, wakes.bounded, more.taken, waits_taken state.pending v waiting, same, degrees, first, rest, each);
      least = omega (arith, s.least, wakes.taken, wakes.more, more.taken, waits_taken state.pending v waiting, same);
      below = omega (arith, s.below, wakes.taken, more.taken);
    }

-- and this many lifts were made
pub some_lifted : (state : SolverState) (v w most count : ℕ) (new content : Content) (again pending : Pending)
    → AllowancesAreUnique → IsSolving state → IsDueTowards state.nodes state.player state.table.measures v w
    → Raises state.table v w new → count ≤ most - 1 → 0 < most
    → LiftsAgain state.nodes state.player v count new content (with_taken state.pending v) again
    → Wakes content.measures (predecessors_of state.nodes v) (length (predecessors_of state.nodes v)) again pending
    → IsLifted state most (1 + count)
    (record { nodes = state.nodes; player = state.player; table = content; pending = pending; lifts = state.lifts + (1 + count); done = state.done })
some_lifted state v w most count new content again pending unique s due raises few some more wakes = record {
  lifted = record {
    places = v ∷ replicate count v;
    lifted = run_raised state.nodes state.player state.table new content v w count unique s.content due raises more.lifted;
    counted = omega (arith, length-replicate count v);
    within = omega (arith, length-replicate count v);
  };
  some = omega arith;
  within = omega arith;
  counted = refl;
  same_nodes = refl;
  same_player = refl;
  same_done = refl;
  room = omega (
    arith,
    count_by-le-length (λ (flag : Bool). flag) pending.flags,
    wakes.entries,
    ap (λ (marks : List Bool). length marks) more.flags,
    length-set state.pending.flags v false,
    s.entries,
  );
}

-- what a solver keeps holds after the take of a place at which no lift is due
pub solving_settled : (state : SolverState) (v : ℕ) (pending : Pending) → IsSolving state → IsPending state.pending v
    → ¬ IsDue state.nodes state.player state.table.measures v → pending ≡ with_taken state.pending v
    → IsSolving (record { nodes = state.nodes; player = state.player; table = state.table; pending = pending; lifts = state.lifts; done = state.done })
solving_settled state v pending s waiting settled taken =
    subst (λ (p : Pending). IsSolving (record {
      nodes = state.nodes;
      player = state.player;
      table = state.table;
      pending = p;
      lifts = state.lifts;
      done = state.done;
    }))
    (sym taken)
    (record {
      game = s.game;
      limits = s.limits;
      content = s.content;
      places = s.places;
      lifted = s.lifted;
      counted = s.counted;
      few = s.few;
      entries = length-set state.pending.flags v _ ∙ s.entries;
      due = λ u due. pending_taken state.pending v u (λ (e : u ≡ v).
          settled (subst (λ (place : ℕ). IsDue state.nodes state.player state.table.measures place) e due)) (s.due u due);
      most = omega (arith, s.most, waits_taken state.pending v waiting);
      least = omega (arith, s.least, waits_taken state.pending v waiting);
      below = omega (arith, s.below);
    })

-- a run of lifts goes on by further lifts
pub lifts_more : (old state new : SolverState) (made most more : ℕ) → state.nodes ≡ old.nodes → state.player ≡ old.player
    → LiftsWithin old made state → IsLifted state most more new → LiftsWithin old (made + more) new
lifts_more old state new made most more same_nodes same_player so_far lift =
    let places = lift.lifted.places in
    let lifted = subst (λ (player : Player). IsLiftingRun old.nodes player state.table.measures places new.table.measures) same_player
    (subst (λ (nodes : List Node). IsLiftingRun nodes state.player state.table.measures places new.table.measures) same_nodes lift.lifted.lifted) in
    record {
      places = so_far.places ++ places;
      lifted = run_append old.nodes old.player old.table.measures state.table.measures new.table.measures so_far.places places so_far.lifted lifted;
      counted = omega (arith, length-append so_far.places places, so_far.counted, lift.lifted.counted);
      within = omega (arith, length-append so_far.places places, so_far.within, lift.lifted.within);
    }
