-- Calls of `run`, one after another.
use Rattle.std.proofs.Common.{◌≡◌, ℕ, ◌+◌, ◌<◌, ◌≤◌, ◌⊎◌, Bool, true, false, List, [], ◌∷◌, ◌++◌, length, map, sum, refl, sym, ap, ◌∙◌, subst, inl, inr, arith}
use Rattle.std.proofs.lemmas.Bool.{cases_Bool, false≢true}
use Rattle.std.proofs.lemmas.List.{length-append, length_push, length-map}
use Rattle.std.proofs.lemmas.List.Sums.{sum_by-cons}
use Rattle.std.proofs.Math.Nat.{mul-pos}
use Rattle.omega_game_values.specs.declared.player.Player.{Player}
use Rattle.omega_game_values.specs.Game.{Node, IsGame, priorities}
use Rattle.omega_game_values.specs.Bound.{occurrences, bound_of, losing_priorities, product}
use Rattle.omega_lift_laws.specs.Measure.{Measure}
use Rattle.omega_lift_laws.specs.Run.{IsDue, IsLiftingRun, zero_table}
use Rattle.omega_lift_laws.specs.Laws.{RunsAreBounded}
use Rattle.omega_solve.specs.Solver.{SolverState, IsFinished, IsReached, HasLiftDue, LiftsWithin, start_of}
use Rattle.omega_solve.specs.Headline.{DealsOut, Runs}
use Rattle.omega_solve.proofs.lifting.Edges.{edge_leaves}
use Rattle.omega_solve.proofs.lifting.Lifting.{run_append, run_more}

-- a run of no lifts
pub lifts_none : (state : SolverState) (budget : ℕ) → LiftsWithin state budget state
lifts_none state budget = record { places = []; lifted = refl; counted = omega arith; within = omega arith }

-- a call that ends with no lift due is one of `run`
pub call_done : (old state new : SolverState) (made budget : ℕ)
    → state.nodes ≡ old.nodes → state.player ≡ old.player → LiftsWithin old made state → made ≤ budget
    → IsFinished state → new ≡ record state { done = true } → Runs old budget new
call_done old state new made budget same_nodes same_player lifts within finished reported =
    rw reported (record {
      same_nodes = same_nodes;
      same_player = same_player;
      lifted = record {
        places = lifts.places;
        lifted = lifts.lifted;
        counted = lifts.counted;
        within = omega (arith, lifts.within);
      };
      done = λ done. finished;
      spent = λ goes_on. absurd (false≢true (sym goes_on));
    })

-- a call that ends with a lift due used up the whole budget
pub call_spent : (old new : SolverState) (made budget : ℕ)
    → new.nodes ≡ old.nodes → new.player ≡ old.player → LiftsWithin old made new → new.lifts ≡ old.lifts + made → made ≡ budget
    → new.done ≡ false → HasLiftDue new → Runs old budget new
call_spent old new made budget same_nodes same_player lifts counted used goes_on due = record {
  same_nodes = same_nodes;
  same_player = same_player;
  lifted = record {
    places = lifts.places;
    lifted = lifts.lifted;
    counted = lifts.counted;
    within = omega (arith, lifts.within);
  };
  done = λ done. absurd (false≢true (sym goes_on ∙ done));
  spent = λ _. (omega arith, due);
}

-- so is one of a solver that is done
pub call_over : (state : SolverState) (budget : ℕ) → state.done ≡ true → IsFinished state → Runs state budget state
call_over state budget done finished = record {
  same_nodes = refl;
  same_player = refl;
  lifted = lifts_none state budget;
  done = λ _. finished;
  spent = λ goes_on. absurd (false≢true (sym goes_on ∙ done));
}

-- a run from the all-zero table is one for the same game and player
reached_for : (nodes other : List Node) (player rival : Player) (places : List ℕ) (table : List Measure) → other ≡ nodes → rival ≡ player
    → IsLiftingRun nodes player (zero_table player (priorities nodes)) places table
    → IsLiftingRun other rival (zero_table rival (priorities other)) places table
reached_for nodes other player rival places table same_nodes same_player lifted =
    subst (λ (n : List Node). IsLiftingRun n rival (zero_table rival (priorities n)) places table) (sym same_nodes)
    (subst (λ (p : Player). IsLiftingRun nodes p (zero_table p (priorities nodes)) places table) (sym same_player) lifted)

-- a call leads to a table that is reached
pub call_reaches : (old new : SolverState) (budget : ℕ) → IsReached old → Runs old budget new → IsReached new
call_reaches old new budget reached call = record {
  places = reached.places ++ call.lifted.places;
  lifted = reached_for old.nodes new.nodes old.player new.player _ new.table.measures call.same_nodes call.same_player
      (run_append old.nodes old.player _ old.table.measures new.table.measures reached.places call.lifted.places reached.lifted call.lifted.lifted);
  counted = omega (arith, length-append reached.places call.lifted.places, reached.counted, call.lifted.counted);
}

-- and so do many
pub deals_reach : (old new : SolverState) (budgets : List ℕ) → IsReached old → DealsOut old budgets new → IsReached new
deals_reach old new [] reached same = subst (λ (s : SolverState). IsReached s) same reached
deals_reach old new (budget ∷ budgets) reached dealt =
    deals_reach dealt.0 new budgets (call_reaches old dealt.0 budget reached dealt.1) dealt.2

-- they keep the game
pub deals_keep_nodes : (old new : SolverState) (budgets : List ℕ) → DealsOut old budgets new → new.nodes ≡ old.nodes
deals_keep_nodes old new [] same = ap (λ (s : SolverState). s.nodes) (sym same)
deals_keep_nodes old new (budget ∷ budgets) dealt = deals_keep_nodes dealt.0 new budgets dealt.2 ∙ dealt.1.same_nodes

-- and the player
pub deals_keep_player : (old new : SolverState) (budgets : List ℕ) → DealsOut old budgets new → new.player ≡ old.player
deals_keep_player old new [] same = ap (λ (s : SolverState). s.player) (sym same)
deals_keep_player old new (budget ∷ budgets) dealt = deals_keep_player dealt.0 new budgets dealt.2 ∙ dealt.1.same_player

-- if they are done, no lift is due
pub deals_finish : (old new : SolverState) (budgets : List ℕ) → (old.done ≡ true → IsFinished old) → DealsOut old budgets new
    → new.done ≡ true → IsFinished new
deals_finish old new [] before same = subst (λ (s : SolverState). s.done ≡ true → IsFinished s) same before
deals_finish old new (budget ∷ budgets) before dealt = deals_finish dealt.0 new budgets dealt.1.done dealt.2

-- if no lift is due, none is due after a call
none_due : (old new : SolverState) (places : List ℕ) (v : ℕ) → IsFinished old → new.nodes ≡ old.nodes → new.player ≡ old.player
    → IsLiftingRun old.nodes old.player old.table.measures places new.table.measures
    → ¬ IsDue new.nodes new.player new.table.measures v
none_due old new [] v finished same_nodes same_player same due =
    let due_before : IsDue old.nodes old.player old.table.measures v =
    subst (λ (t : List Measure). IsDue old.nodes old.player t v) (sym same)
    (subst (λ (p : Player). IsDue old.nodes p new.table.measures v) same_player
    (subst (λ (n : List Node). IsDue n new.player new.table.measures v) same_nodes due)) in
    finished v (edge_leaves old.nodes v due_before.1.value.successor due_before.1.value.listed) due_before
none_due old new (u ∷ us) v finished same_nodes same_player lifted due = finished u lifted.1 (lifted.0, lifted.2)

-- then a call is done
call_stays : (old new : SolverState) (budget : ℕ) (done : Bool) → new.done ≡ done → IsFinished old → Runs old budget new → new.done ≡ true
call_stays old new budget true is finished call = is
call_stays old new budget false is finished call =
    let due = (call.spent is).1 in
    absurd
    (none_due old new call.lifted.places due.0 finished call.same_nodes call.same_player call.lifted.lifted due.1)

-- and so are many
deals_stay : (old new : SolverState) (budgets : List ℕ) → old.done ≡ true → IsFinished old → DealsOut old budgets new → new.done ≡ true
deals_stay old new [] done finished same = ap (λ (s : SolverState). s.done) (sym same) ∙ done
deals_stay old new (budget ∷ budgets) done finished dealt =
    let still = call_stays old dealt.0 budget dealt.0.done refl finished dealt.1 in
    deals_stay dealt.0 new budgets still (dealt.1.done still) dealt.2

-- calls that are not done used up all their budgets, and leave a lift due
pub record UsesUp (old : SolverState) (budgets : List ℕ) (new : SolverState) : Type 0 where
  pub used : new.lifts ≡ old.lifts + sum budgets
  pub due : 0 < length budgets → HasLiftDue new

-- a call that is not done uses up its budget before them
uses_more : (old next new : SolverState) (budget : ℕ) (budgets : List ℕ) → next.done ≡ false → Runs old budget next
    → DealsOut next budgets new → UsesUp next budgets new → UsesUp old (budget ∷ budgets) new
uses_more old next new budget [] goes_on call same so_far = record {
  used = omega (arith, so_far.used, (call.spent goes_on).0, sum_by-cons (λ (x : ℕ). x) budget []);
  due = λ some. subst (λ (s : SolverState). HasLiftDue s) same (call.spent goes_on).1;
}
uses_more old next new budget (other ∷ budgets) goes_on call dealt so_far = record {
  used = omega (arith, so_far.used, (call.spent goes_on).0, sum_by-cons (λ (x : ℕ). x) budget (other ∷ budgets));
  due = λ some. so_far.due (omega arith);
}

-- calls are done, or used up all their budgets
pub deals_end : (old new : SolverState) (budgets : List ℕ) → DealsOut old budgets new → (new.done ≡ true) ⊎ UsesUp old budgets new
deals_end old new [] same = inr (record {
  used = omega (arith, ap (λ (s : SolverState). s.lifts) same);
  due = λ some. absurd (omega arith);
})
deals_end old new (budget ∷ budgets) dealt = elim (cases_Bool dealt.0.done) [
  | inl done ↦ inl (deals_stay dealt.0 new budgets done (dealt.1.done done) dealt.2)
  | inr goes_on ↦ elim (deals_end dealt.0 new budgets dealt.2) [
    | inl done ↦ inl done
    | inr used ↦ inr (uses_more old dealt.0 new budget budgets goes_on dealt.1 dealt.2 used)
  ]
]

-- a product of numbers that are not 0 is not 0
product_some : (f : ℕ → ℕ) (xs : List ℕ) → 0 < product (map (λ x. 1 + f x) xs)
product_some f [] = omega arith
product_some f (x ∷ xs) = mul-pos (omega arith) (product_some f xs)

-- the bound of a game is not 0
bound_some : (nodes : List Node) (player : Player) → IsGame nodes → 0 < bound_of player (priorities nodes)
bound_some nodes player game =
    let some : 0 < length (priorities nodes) = omega (arith, game.inhabited, length-map nodes (λ (node : Node). node.priority)) in
    mul-pos some (product_some (occurrences (priorities nodes)) (losing_priorities player (priorities nodes)))

-- if a lift is due, the lifts so far are below the bound
lifts_below : (solver : SolverState) → RunsAreBounded → IsReached solver → HasLiftDue solver
    → solver.lifts < bound_of solver.player (priorities solver.nodes)
lifts_below solver bounded reached due =
    let lifts = due.1.1 in
    let inside = edge_leaves solver.nodes due.0 lifts.value.successor lifts.value.listed in
    let longer = run_more solver.nodes solver.player _ solver.table.measures reached.places due.0 due.1.0 reached.lifted inside lifts in
    omega (arith, bounded solver.nodes solver.player (reached.places ++ due.0 ∷ []) _ longer, length_push reached.places due.0, reached.counted)

-- so calls that used up all their budgets had less than the bound
spent_less : (nodes : List Node) (player : Player) (budgets : List ℕ) (solver : SolverState) → RunsAreBounded → IsGame nodes
    → DealsOut (start_of nodes player) budgets solver → IsReached solver
    → bound_of player (priorities nodes) ≤ sum budgets → UsesUp (start_of nodes player) budgets solver → ⊥
spent_less nodes player [] solver bounded game dealt reached enough up = omega (arith, bound_some nodes player game)
spent_less nodes player (budget ∷ budgets) solver bounded game dealt reached enough up =
    let below = lifts_below solver bounded reached (up.due (omega arith)) in
    let same_nodes = deals_keep_nodes (start_of nodes player) solver (budget ∷ budgets) dealt in
    let same_player = deals_keep_player (start_of nodes player) solver (budget ∷ budgets) dealt in
    let below_bound : solver.lifts < bound_of player (priorities nodes) =
    subst (λ (n : List Node). solver.lifts < bound_of player (priorities n)) same_nodes
    (subst (λ (p : Player). solver.lifts < bound_of p (priorities solver.nodes)) same_player below) in
    omega (arith, below_bound, up.used)

-- budgets that together reach the bound suffice
pub deals_suffice : (nodes : List Node) (player : Player) (budgets : List ℕ) (solver : SolverState) → RunsAreBounded → IsGame nodes
    → DealsOut (start_of nodes player) budgets solver → IsReached solver
    → bound_of player (priorities nodes) ≤ sum budgets → solver.done ≡ true
deals_suffice nodes player budgets solver bounded game dealt reached enough =
    elim (deals_end (start_of nodes player) solver budgets dealt) [
      | inl done ↦ done
      | inr up ↦ absurd (spent_less nodes player budgets solver bounded game dealt reached enough up)
    ]
