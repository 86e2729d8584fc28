-- A new solver that ran within a budget gives the answer, or the reason for giving none, and the reports of its run.
use Rattle.std.proofs.Common.{◌≡◌, ◌↔◌, ◌+◌, ◌*◌, ◌<◌, ◌≤◌, ◌∙◌, ℕ, true, false, List, [], ◌∷◌, Option, None, Result, Ok, Err, IfErr, IfOk, IsOkUnless, length, ap, arith, inl, inr, refl, subst, sym}
use Rattle.std.specs.Result.{IsErrAnd}
use Rattle.std.proofs.lemmas.Bool.{cases_Bool}
use Rattle.omega_text.specs.declared.refusal.Refusal.{Refusal}
use Rattle.omega_text.specs.declared.refusal.Refusal.TheVariants.{Automaton, Circuit, Game, Io, Memory, Task, Text}
use Rattle.omega_game_values.specs.declared.player.Player.{Player}
use Rattle.omega_game_values.specs.Bound.{bound_of}
use Rattle.omega_game_values.specs.Game.{IsGame, Node, priorities}
use Rattle.omega_lift_laws.specs.Answer.{AreChoices, won_in}
use Rattle.omega_lift_laws.specs.Measure.{Measure}
use Rattle.omega_lift_laws.specs.Run.{IsDue, IsLiftingRun, IsStable}
use Rattle.omega_measure.specs.Table.{IsPrepareRefusal, is_too_wide}
use Rattle.omega_solve.specs.declared.outcome.Outcome.{Outcome}
use Rattle.omega_solve.specs.declared.outcome.Outcome.TheVariants.{Done, Spent}
use Rattle.omega_solve.specs.Headline.{IsExact, Runs}
use Rattle.omega_solve.specs.Solver.{HasLiftDue, IsFinished, IsReached, SolverState, lift_bound, start_of}
use Rattle.omega_solve.specs.declared.budget.found.Found.{Found}
use Rattle.omega_solve.specs.declared.budget.observing.Progress.{Progress}
use Rattle.omega_solve.specs.budget.Laws.{HasSameLifts, ReorderingsKeepBounds, ReorderingsKeepStates}
use Rattle.omega_solve.specs.budget.Reordering.{IsReordering, state_by_place}
use Rattle.omega_solve.specs.budget.Observing.{AreReports, ComesBefore, ComesAfter, IsSpent, IsReported, ReportsFound, ReportsRun, ReportsSolving, most_of, refusal_in}
use Rattle.omega_solve.specs.budget.Within.{EndsSo, EndsWithin, GoesOnAfter, IsFound, IsSolvingFault, IsSolvingRefusal, LiftsTo}
use Rattle.omega_solve.specs.budget.private.steps.Refusing.{IsBudgetRefusal}
use Rattle.omega_solve.specs.budget.private.steps.Lifting.{HasLifted, StopsSo}
use Rattle.omega_solve.proofs.within_budget.Games.{edge_from}

-- the lifts of a solver lead to its table
lifts_to : (state : SolverState) → IsReached state → LiftsTo state.nodes state.player state.lifts state.table.measures
lifts_to state reached = record { places = reached.places; run = reached.lifted; counted = reached.counted }

goes_on_after : (state : SolverState) → IsReached state → HasLiftDue state → GoesOnAfter state.nodes state.player state.lifts
goes_on_after state reached due =
    record { table = state.table.measures; lifted = lifts_to state reached; place = due.0; due = due.1 }

-- how a run stops that brings the lifts to the budget
stops_so : (mid new : SolverState) (outcome : Outcome) (made more budget : ℕ) → mid.lifts ≡ made → Runs mid more new
    → (new.done ≡ true) ↔ (outcome ≡ Done) → (outcome ≡ Spent → made + more ≡ budget) → StopsSo outcome budget new
stops_so mid new Done made more budget counted ran reported used = (reported.1 refl, ran.done (reported.1 refl))
stops_so mid new Spent made more budget counted ran reported used = elim (cases_Bool new.done) [
  | inl done ↦ (let e : Spent ≡ Done = reported.0 done in cc)
  | inr goes_on ↦ (omega (arith, (ran.spent goes_on).0, counted, used refl), (ran.spent goes_on).1)
]

-- a new solver lifted within the budget, if its run goes on after `made` lifts
pub run_lifted : (nodes : List Node) (player : Player) (made more budget : ℕ) (start mid new : SolverState) (outcome : Outcome)
    → start ≡ start_of nodes player → mid.nodes ≡ start.nodes → mid.player ≡ start.player → mid.lifts ≡ made
    → Runs mid more new → IsReached new → new.lifts ≤ lift_bound new → (new.done ≡ true) ↔ (outcome ≡ Done)
    → made + more ≤ budget → (outcome ≡ Spent → made + more ≡ budget) → HasLifted nodes player budget outcome new
run_lifted nodes player made more budget start mid new outcome fresh kept_nodes kept_player counted ran reached bounded reported within used =
    let same_nodes : new.nodes ≡ nodes = ran.same_nodes ∙ kept_nodes ∙ ap (λ (s : SolverState). s.nodes) fresh in
    let same_player : new.player ≡ player = ran.same_player ∙ kept_player ∙ ap (λ (s : SolverState). s.player) fresh in
    record {
      same_nodes = same_nodes;
      same_player = same_player;
      reached = reached;
      bounded = subst (λ (n : List Node). new.lifts ≤ bound_of player (priorities n)) same_nodes
          (subst (λ (p : Player). new.lifts ≤ bound_of p (priorities new.nodes)) same_player bounded);
      within = omega (arith, ran.lifted.counted, ran.lifted.within, counted, within);
      stopped = stops_so mid new outcome made more budget counted ran reported used;
    }

-- a solver that used up the budget shows that a run of exactly its entries leaves a lift due
pub used_up : (nodes : List Node) (player : Player) (budget : ℕ) (state : SolverState) → HasLifted nodes player budget Spent state
    → GoesOnAfter nodes player budget
used_up nodes player budget state lifted =
    subst (λ (n : List Node). GoesOnAfter n player budget) lifted.same_nodes
    (subst (λ (p : Player). GoesOnAfter state.nodes p budget) lifted.same_player
    (subst (λ (lifts : ℕ). GoesOnAfter state.nodes state.player lifts) lifted.stopped.0 (goes_on_after state lifted.reached lifted.stopped.1)))

-- a run that begins with a lift due and ends with none due makes lifts
lifts_on : (old new : SolverState) (budget : ℕ) → Runs old budget new → HasLiftDue old → IsFinished new → old.lifts < new.lifts
lifts_on old new budget ran due finished = go ran.lifted.places refl
  where
    go : (places : List ℕ) → ran.lifted.places ≡ places → old.lifts < new.lifts
    go (v ∷ vs) is = omega (arith, ran.lifted.counted, ap (λ (us : List ℕ). length us) is)
    go [] is =
        let same : old.table.measures ≡ new.table.measures =
        subst (λ (us : List ℕ). IsLiftingRun old.nodes old.player old.table.measures us new.table.measures) is ran.lifted.lifted in
        let there : IsDue new.nodes new.player new.table.measures due.0 =
        subst (λ (n : List Node). IsDue n new.player new.table.measures due.0) (sym ran.same_nodes)
        (subst (λ (p : Player). IsDue old.nodes p new.table.measures due.0) (sym ran.same_player)
        (subst (λ (t : List Measure). IsDue old.nodes old.player t due.0) same due.1)) in
        absurd (finished due.0 (edge_from new.nodes due.0 there.1.value.successor there.1.value.listed) there)

-- the reports so far are those of a run that ends in the slice after them
pub reports_so : (mid new : SolverState) (outcome : Outcome) (times every more : ℕ) → mid.lifts ≡ times * every → (0 < times → HasLiftDue mid)
    → Runs mid more new → (new.done ≡ true) ↔ (outcome ≡ Done) → more ≤ every → (outcome ≡ Spent → more < every)
    → AreReports outcome every new.lifts times
reports_so mid new Done times every more counted going ran reported few less = (
  λ some. omega (arith, lifts_on mid new more ran (going some) (ran.done (reported.1 refl)), counted),
  omega (arith, ran.lifted.counted, ran.lifted.within, counted, few),
)
reports_so mid new Spent times every more counted going ran reported few less = elim (cases_Bool new.done) [
  | inl done ↦ (let e : Spent ≡ Done = reported.0 done in cc)
  | inr goes_on ↦ (omega (arith, (ran.spent goes_on).0, counted), omega (arith, (ran.spent goes_on).0, counted, less refl))
]

-- a slice that is spent leaves a lift due
pub still_due : (old new : SolverState) (budget : ℕ) (outcome : Outcome) → Runs old budget new → (new.done ≡ true) ↔ (outcome ≡ Done) → outcome ≡ Spent → HasLiftDue new
still_due old new budget outcome ran reported spent = elim (cases_Bool new.done) [
  | inl done ↦ (let e : outcome ≡ Done = reported.0 done in cc)
  | inr goes_on ↦ (ran.spent goes_on).1
]

-- a run of the reordered game and the run of the original game stop in the same way
stops_by_place : (state other : SolverState) (outcome : Outcome) (budget : ℕ) → HasSameLifts state other → other.done ≡ state.done → other.lifts ≡ state.lifts
    → StopsSo outcome budget state → StopsSo outcome budget other
stops_by_place state other Done budget follows same_done same_lifts ended = (same_done ∙ ended.0, follows.finished ended.1)
stops_by_place state other Spent budget follows same_done same_lifts ended = (same_lifts ∙ ended.0, follows.due ended.1)

-- the lifts of a solver for the reordered game are lifts of a solver for the original game
pub lifted_by_place : ReorderingsKeepStates → ReorderingsKeepBounds → (nodes other : List Node) (positions places : List ℕ) (player : Player) (budget : ℕ) (outcome : Outcome)
    (state : SolverState) → IsGame nodes → IsReordering nodes other positions places → HasLifted other player budget outcome state
    → HasLifted nodes player budget outcome (state_by_place nodes positions state)
lifted_by_place states bounds nodes other positions places player budget outcome state game reordering lifted =
    let here : IsReordering nodes state.nodes positions places = subst (λ (n : List Node). IsReordering nodes n positions places) (sym lifted.same_nodes) reordering in
    let follows = states nodes positions places state game here lifted.reached in
    record {
      same_nodes = refl;
      same_player = lifted.same_player;
      reached = follows.reached;
      bounded = subst (λ (bound : ℕ). state.lifts ≤ bound) (bounds nodes other positions places player reordering) lifted.bounded;
      within = lifted.within;
      stopped = stops_by_place state (state_by_place nodes positions state) outcome budget follows refl refl lifted.stopped;
    }

-- the lifts of a solver that lifted within the budget, for the game and the player
lifts_for : (nodes : List Node) (player : Player) (budget : ℕ) (outcome : Outcome) (state : SolverState) → HasLifted nodes player budget outcome state
    → LiftsTo nodes player state.lifts state.table.measures
lifts_for nodes player budget outcome state lifted =
    subst (λ (n : List Node). LiftsTo n player state.lifts state.table.measures) lifted.same_nodes
    (subst (λ (p : Player). LiftsTo state.nodes p state.lifts state.table.measures) lifted.same_player (lifts_to state lifted.reached))

stable_for : (nodes : List Node) (player : Player) (budget : ℕ) (state : SolverState) → HasLifted nodes player budget Done state
    → IsStable nodes player state.table.measures
stable_for nodes player budget state lifted =
    subst (λ (n : List Node). IsStable n player state.table.measures) lifted.same_nodes
    (subst (λ (p : Player). IsStable state.nodes p state.table.measures) lifted.same_player lifted.stopped.1)

ends_within : (nodes : List Node) (player : Player) (budget : ℕ) (state : SolverState) → HasLifted nodes player budget Done state
    → EndsWithin nodes player budget state.lifts
ends_within nodes player budget state lifted = record {
  within = lifted.within;
  bounded = lifted.bounded;
  ended = record {
    table = state.table.measures;
    lifted = lifts_for nodes player budget Done state lifted;
    done = stable_for nodes player budget state lifted;
  };
}

-- how a solver that lifted within the budget ended
pub ended_so : (nodes : List Node) (player : Player) (budget : ℕ) (outcome : Outcome) (state : SolverState) → HasLifted nodes player budget outcome state
    → EndsSo outcome nodes player budget state.lifts
ended_so nodes player budget Done state lifted = ends_within nodes player budget state lifted
ended_so nodes player budget Spent state lifted = (lifted.stopped.0, used_up nodes player budget state lifted)

-- an exact answer that is read in the table of a solver that is done was found within the budget
pub found_within : (nodes : List Node) (player : Player) (budget : ℕ) (state : SolverState) (found : Found) → HasLifted nodes player budget Done state
    → IsExact nodes state.player found.won.items found.choice.items → found.won.items ≡ won_in state.table.measures
    → AreChoices nodes state.player state.table.measures found.choice.items → found.lifts ≡ state.lifts
    → IsFound nodes player budget found
found_within nodes player budget state found lifted exact below_top chosen el =
    record {
      exact = subst (λ (p : Player). IsExact nodes p found.won.items found.choice.items) lifted.same_player exact;
      ended = record {
        within = omega (arith, el, lifted.within);
        bounded = omega (arith, el, lifted.bounded);
        ended = record {
          table = state.table.measures;
          lifted = subst (λ (lifts : ℕ). LiftsTo nodes player lifts state.table.measures) (sym el) (lifts_for nodes player budget Done state lifted);
          done = stable_for nodes player budget state lifted;
        };
      };
      below_top = below_top;
      chosen = subst (λ (p : Player). AreChoices nodes p state.table.measures found.choice.items) lifted.same_player chosen;
    }

-- the answer of a solver that is done was found within the budget
pub answer_within : (nodes : List Node) (player : Player) (budget : ℕ) (state : SolverState) (result : Result Found Refusal) → HasLifted nodes player budget Done state
    → IfOk result (λ found. found.lifts ≡ state.lifts) → IfOk result (λ found. IsExact nodes state.player found.won.items found.choice.items)
    → IfOk result (λ found. found.won.items ≡ won_in state.table.measures)
    → IfOk result (λ found. AreChoices nodes state.player state.table.measures found.choice.items)
    → IfOk result (IsFound nodes player budget)
answer_within nodes player budget state (Ok found) lifted counted exact below_top chosen =
    found_within nodes player budget state found lifted exact below_top chosen counted
answer_within nodes player budget state (Err refusal) lifted counted exact below_top chosen = tt

-- the reports of a run of the reordered game are those of a run of the original game
pub reported_by_place : {L : Type 0} (tells : Progress → L → L → Type 0) (every most : ℕ) (nodes : List Node) (player : Player) (budget : ℕ) (outcome : Outcome) (state : SolverState)
    (refusal : Option Refusal) (before after : L) → HasLifted nodes player budget outcome state → (outcome ≡ Spent) ↔ IsSpent refusal
    → most ≡ most_of nodes player budget → IsReported tells player every most outcome state.lifts before after
    → ReportsRun tells every nodes player budget state.lifts refusal before after
reported_by_place tells every most nodes player budget outcome state refusal before after lifted spent same reported = record {
  outcome = outcome;
  spent = spent;
  ended = ended_so nodes player budget outcome state lifted;
  reported = subst (λ (m : ℕ). IsReported tells player every m outcome state.lifts before after) same reported;
}

-- a run that is done was reported, whatever its answer
pub reported_done : {L : Type 0} (tells : Progress → L → L → Type 0) (every : ℕ) (nodes : List Node) (player : Player) (budget lifts : ℕ) (result : Result Found Refusal)
    (before after : L) → IfOk result (λ found. found.lifts ≡ lifts) → IsOkUnless result Memory
    → ReportsRun tells every nodes player budget lifts (refusal_in result) before after → ReportsFound tells every nodes player budget result before after
reported_done tells every nodes player budget lifts (Ok found) before after counted memory run =
    subst (λ (n : ℕ). ReportsRun tells every nodes player budget n None before after) (sym counted) run
reported_done tells every nodes player budget lifts (Err refusal) before after counted memory run =
    let same : refusal ≡ Memory = memory in
    (subst ComesAfter (sym same) tt, lifts, run)

-- a result that only memory refuses is not refused for the budget
pub not_spent : {A : Type 0} (result : Result A Refusal) → IsOkUnless result Memory → (Done ≡ Spent) ↔ IsSpent (refusal_in result)
not_spent (Ok value) memory = (λ e. cc, λ e. cc)
not_spent (Err refusal) memory = (λ e. cc, λ e. let same : refusal ≡ Memory = memory in cc)

-- what refuses a run with a table that fits refuses to solve the game
pub refused_where_narrow : (nodes : List Node) (player : Player) (budget : ℕ) (refusal : Refusal) → is_too_wide player (priorities nodes) ≡ false
    → IsBudgetRefusal nodes player budget refusal → IsSolvingRefusal nodes player budget refusal
refused_where_narrow nodes player budget (Task fault) narrow refused =
    subst (IsSolvingFault nodes player budget) (sym refused.0) (narrow, refused.1)
refused_where_narrow nodes player budget Memory narrow refused = tt
refused_where_narrow nodes player budget (Text fault) narrow refused = refused
refused_where_narrow nodes player budget (Game fault) narrow refused = refused
refused_where_narrow nodes player budget (Automaton fault) narrow refused = refused
refused_where_narrow nodes player budget (Circuit fault) narrow refused = refused
refused_where_narrow nodes player budget Io narrow refused = refused

-- what refuses a table refuses to solve the game, before a run is made
pub refused_where_wide : (nodes : List Node) (player : Player) (budget : ℕ) (refusal : Refusal) → IsPrepareRefusal player (priorities nodes) refusal
    → IsSolvingRefusal nodes player budget refusal
refused_where_wide nodes player budget (Task fault) refused = subst (IsSolvingFault nodes player budget) (sym refused.0) refused.1
refused_where_wide nodes player budget Memory refused = tt
refused_where_wide nodes player budget (Text fault) refused = refused
refused_where_wide nodes player budget (Game fault) refused = refused
refused_where_wide nodes player budget (Automaton fault) refused = refused
refused_where_wide nodes player budget (Circuit fault) refused = refused
refused_where_wide nodes player budget Io refused = refused

pub comes_before : (numbers : List ℕ) (player : Player) (refusal : Refusal) → IsPrepareRefusal player numbers refusal → ComesBefore refusal
comes_before numbers player (Task fault) refused = refused.0
comes_before numbers player Memory refused = tt
comes_before numbers player (Text fault) refused = refused
comes_before numbers player (Game fault) refused = refused
comes_before numbers player (Automaton fault) refused = refused
comes_before numbers player (Circuit fault) refused = refused
comes_before numbers player Io refused = refused

-- so for results
pub refused_within : (nodes : List Node) (player : Player) (budget : ℕ) (result : Result Found Refusal) → is_too_wide player (priorities nodes) ≡ false
    → IfErr result (IsBudgetRefusal nodes player budget) → IfErr result (IsSolvingRefusal nodes player budget)
refused_within nodes player budget (Ok found) narrow refused = tt
refused_within nodes player budget (Err refusal) narrow refused = refused_where_narrow nodes player budget refusal narrow refused

pub reported_solving : {L : Type 0} (tells : Progress → L → L → Type 0) (every : ℕ) (nodes : List Node) (player : Player) (budget : ℕ) (result : Result Found Refusal)
    (before after : L) → ReportsFound tells every nodes player budget result before after → ReportsSolving tells every nodes player budget result before after
reported_solving tells every nodes player budget (Ok found) before after reported = reported
reported_solving tells every nodes player budget (Err refusal) before after reported = inr reported

-- there is no report if solving is refused before a run
pub reported_nothing : {L : Type 0} (tells : Progress → L → L → Type 0) (every : ℕ) (nodes : List Node) (player : Player) (budget : ℕ) (result : Result Found Refusal)
    (Was : Refusal → Type 0) (refusal : Refusal) (before : L) → IsErrAnd result Was → ((other : Refusal) → Was other → other ≡ refusal) → ComesBefore refusal
    → ReportsSolving tells every nodes player budget result before before
reported_nothing tells every nodes player budget (Ok found) Was refusal before was same comes = absurd was
reported_nothing tells every nodes player budget (Err other) Was refusal before was same comes = inl (subst ComesBefore (sym (same other was)) comes, refl)
