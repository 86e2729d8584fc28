-- Budgets dealt out in the reordered game are dealt out in the original game.
use Rattle.std.proofs.Common.{◌≡◌, ◌∙◌, ◌<◌, ◌≤◌, ◌++◌, ℕ, Bool, true, false, List, [], ◌∷◌, length, map, get_or, replicate, ap, ap₂, arith, refl, subst, sym}
use Rattle.std.proofs.lemmas.List.{ext_get_or, get_or-map, get_or-replicate, length-map, length-replicate, length_push}
use Rattle.omega_game_values.specs.declared.player.Player.{Player}
use Rattle.omega_game_values.specs.Bound.{bound_of}
use Rattle.omega_game_values.specs.Game.{Node, priorities}
use Rattle.omega_lift_laws.specs.Laws.{RunsAreBounded}
use Rattle.omega_lift_laws.specs.Measure.{Measure, zero_measure}
use Rattle.omega_lift_laws.specs.Run.{IsDue, IsLiftingRun, IsStable, zero_table}
use Rattle.omega_lift_schedules.specs.Schedule.{all_pending}
use Rattle.omega_solve.specs.Headline.{DealsOut, Headline, Runs}
use Rattle.omega_solve.specs.Solver.{SolverState, solver_state, start_of}
use Rattle.omega_solve.specs.declared.budget.found.Found.{Found}
use Rattle.omega_solve.specs.budget.Laws.{HeadlineByPlace, IsAnswerOfSolver}
use Rattle.omega_solve.specs.budget.Reordering.{IsReordering, flags_by_place, state_by_place}
use Rattle.omega_solve.specs.budget.Within.{GoesOnAfter, IsFound, LiftsTo}
use Rattle.omega_solve.proofs.within_budget.Games.{IsClosed, edge_from, position_below}
use Rattle.omega_solve.proofs.within_budget.Lifting.{due_here, run_here, run_long, stable_here, zeros_here}

module _ (nodes other : List Node) (positions places : List ℕ) (reordering : IsReordering nodes other positions places) (closed : IsClosed nodes) where
  -- all places are pending if all positions are
  all_pending_here : flags_by_place positions (replicate (length other) true) ≡ replicate (length nodes) true
  all_pending_here = ext_get_or false _ _ even entry
    where
      even : length (flags_by_place positions (replicate (length other) true)) ≡ length (replicate (length nodes) true)
      even =
          length-map positions (λ r. get_or (replicate (length other) true) r false) ∙ reordering.positioned
          ∙ sym (length-replicate (length nodes) true)

      entry : (k : ℕ) → k < length (flags_by_place positions (replicate (length other) true))
          → get_or (flags_by_place positions (replicate (length other) true)) k false ≡ get_or (replicate (length nodes) true) k false
      entry k below =
          let inside : k < length positions = omega (arith, below, length-map positions (λ r. get_or (replicate (length other) true) r false)) in
          let small : k < length nodes = omega (arith, inside, reordering.positioned) in
          get_or-map (λ r. get_or (replicate (length other) true) r false) positions k 0 false inside
          ∙ get_or-replicate (length other) (get_or positions k 0) true false (position_below nodes other positions places reordering k small)
          ∙ sym (get_or-replicate (length nodes) k true false small)

  -- a new solver for the reordered game, restated by place, is a new solver for the original game
  start_here : (player : Player) → state_by_place nodes positions (start_of other player) ≡ start_of nodes player
  start_here player =
      ap₂ (λ (measures : List Measure) (flags : List Bool). record {
        nodes = nodes;
        player = player;
        table = record { player = player; priorities = priorities nodes; measures = measures };
        pending = record { flags = flags; taken = 0 };
        lifts = 0;
        done = false;
      }) (zeros_here nodes other positions places reordering closed player) all_pending_here

  -- a call of `run` on the reordered game is one on the original game
  call_here : (old new : SolverState) (budget : ℕ) → old.nodes ≡ other → length old.table.measures ≡ length other → Runs old budget new
      → Runs (state_by_place nodes positions old) budget (state_by_place nodes positions new)
  call_here old new budget here long ran = record {
    same_nodes = refl;
    same_player = ran.same_player;
    lifted = record {
      places = map (λ r. get_or places r 0) ran.lifted.places;
      lifted = run_here nodes other positions places reordering closed old.player old.table.measures new.table.measures ran.lifted.places long run_there;
      counted = omega (arith, ran.lifted.counted, length-map ran.lifted.places (λ r. get_or places r 0));
      within = omega (arith, ran.lifted.within, length-map ran.lifted.places (λ r. get_or places r 0));
    };
    done = λ done. stable_here nodes other positions places reordering closed new.player new.table.measures new_long
        (subst (λ (n : List Node). (v : ℕ) → v < length n → ¬ IsDue n new.player new.table.measures v) there (ran.done done));
    spent = λ still. (
      (ran.spent still).0,
      (
        get_or places (ran.spent still).1.0 0,
        due_here nodes other positions places reordering closed new.player new.table.measures (ran.spent still).1.0
            (subst (λ (n : List Node). IsDue n new.player new.table.measures (ran.spent still).1.0) there (ran.spent still).1.1),
      ),
    );
  }
    where
      run_there : IsLiftingRun other old.player old.table.measures ran.lifted.places new.table.measures
      run_there = subst (λ (n : List Node). IsLiftingRun n old.player old.table.measures ran.lifted.places new.table.measures) here ran.lifted.lifted

      there : new.nodes ≡ other
      there = ran.same_nodes ∙ here

      new_long : length new.table.measures ≡ length other
      new_long = run_long other old.player old.table.measures new.table.measures ran.lifted.places run_there ∙ long

  -- and so are many
  deals_here : (old new : SolverState) (budgets : List ℕ) → old.nodes ≡ other → length old.table.measures ≡ length other → DealsOut old budgets new
      → DealsOut (state_by_place nodes positions old) budgets (state_by_place nodes positions new)
  deals_here old new [] here long same = ap (state_by_place nodes positions) same
  deals_here old new (budget ∷ budgets) here long (next, ran, dealt) = (
    state_by_place nodes positions next,
    call_here old next budget here long ran,
    deals_here next new budgets (ran.same_nodes ∙ here)
        (run_long old.nodes old.player old.table.measures next.table.measures ran.lifted.places ran.lifted.lifted ∙ long) dealt,
  )

-- the headline of a solver for the original game gives that of a solver for the reordered game
pub by_place : Headline → HeadlineByPlace
by_place headline nodes other positions places player budgets solver game reordering dealt =
    headline nodes player budgets (state_by_place nodes positions solver) game
    (subst (λ (s : SolverState). DealsOut s budgets (state_by_place nodes positions solver)) (start_here nodes other positions places reordering closed player)
    (deals_here nodes other positions places reordering closed (start_of other player) solver budgets refl start_long dealt))
  where
    closed : IsClosed nodes
    closed v w lt edge = game.closed v w edge

    start_long : length (zero_table player (priorities other)) ≡ length other
    start_long =
        length-replicate (length (priorities other)) (zero_measure player (priorities other))
        ∙ length-map other (λ (node : Node). node.priority)

-- a lifting run with an entry more
pub run_more : (nodes : List Node) (player : Player) (old new : List Measure) (vs : List ℕ) (v : ℕ) (due : IsDue nodes player new v)
    → IsLiftingRun nodes player old vs new → (table : List Measure) × IsLiftingRun nodes player old (vs ++ v ∷ []) table
run_more nodes player old new [] v due same =
    let here : IsDue nodes player old v = subst (λ (t : List Measure). IsDue nodes player t v) (sym same) due in
    (_, (here.0, edge_from nodes v here.1.value.successor here.1.value.listed, here.1, refl))
run_more nodes player old new (u ∷ us) v due (x, inside, lifts, run) =
    let more = run_more nodes player _ new us v due run in
    (more.0, (x, inside, lifts, more.1))

-- so a budget that leaves a lift due is below the bound
pub below_bound : RunsAreBounded → (nodes : List Node) (player : Player) (budget : ℕ) → GoesOnAfter nodes player budget
    → budget < bound_of player (priorities nodes)
below_bound bounded nodes player budget goes_on =
    let longer = run_more nodes player _ goes_on.table goes_on.lifted.places goes_on.place goes_on.due goes_on.lifted.run in
    omega (arith, bounded nodes player (goes_on.lifted.places ++ goes_on.place ∷ []) longer.0 longer.1, length_push goes_on.lifted.places goes_on.place, goes_on.lifted.counted)

-- a solver that is done after these lifts
abbrev solver_done : List Node → Player → List Measure → ℕ → SolverState
solver_done nodes player table lifts =
    solver_state nodes player (record { player = player; priorities = priorities nodes; measures = table }) (all_pending (length nodes)) lifts true

-- a lifting run within the budget that leaves no lift due is a call of `run`
runs_at_once : (nodes : List Node) (player : Player) (budget lifts : ℕ) (table : List Measure) → LiftsTo nodes player lifts table → IsStable nodes player table → lifts ≤ budget
    → Runs (start_of nodes player) budget (solver_done nodes player table lifts)
runs_at_once nodes player budget lifts table lifted stable within = record {
  same_nodes = refl;
  same_player = refl;
  lifted = record {
    places = lifted.places;
    lifted = lifted.run;
    counted = omega (arith, lifted.counted);
    within = omega (arith, lifted.counted, within);
  };
  done = λ _. stable;
  spent = λ still. (let e : true ≡ false = still in cc);
}

-- what was found within a budget is the answer of a new solver that was given the whole budget
pub answer_of_solver : (nodes : List Node) (player : Player) (budget : ℕ) (found : Found) → IsFound nodes player budget found
    → IsAnswerOfSolver nodes player budget found
answer_of_solver nodes player budget found is = record {
  solver = solver_done nodes player is.ended.ended.table found.lifts;
  dealt = (
    solver_done nodes player is.ended.ended.table found.lifts,
    runs_at_once nodes player budget found.lifts is.ended.ended.table is.ended.ended.lifted is.ended.ended.done is.ended.within,
    refl,
  );
  done = refl;
  lifts = refl;
  won = is.below_top;
  chosen = is.chosen;
}
