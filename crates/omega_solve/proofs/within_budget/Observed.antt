-- The reports of several runs, put together.
use Rattle.std.proofs.Common.{◌≡◌, ◌≢◌, ℕ, zero, suc, ◌+◌, ◌*◌, ◌<◌, ◌⊎◌, List, [], ◌∷◌, Option, None, Some, Result, Ok, Err, IfErr, arith, inl, inr, refl, subst, sym}
use Rattle.std.specs.Result.{IsErrAnd}
use Rattle.std.proofs.lemmas.Bool.{cases_lt}
use Rattle.omega_text.specs.declared.refusal.Refusal.{Refusal}
use Rattle.omega_text.specs.declared.refusal.Refusal.TheVariants.{Task}
use Rattle.omega_text.specs.declared.refusal.task.TaskFault.TheVariants.{Budget, TooWide}
use Rattle.omega_game_values.specs.declared.player.Player.{Player}
use Rattle.omega_solve.specs.declared.outcome.Outcome.TheVariants.{Done}
use Rattle.omega_game_values.specs.Game.{Node}
use Rattle.omega_solve.specs.budget.Observing.{AreMade, AreReports, ComesBefore, IsUntried, IsObserved, ReportsEach, ReportsRun, ReportsRuns, ReportsSolving, most_of, refusal_in}
use Rattle.omega_solve.specs.budget.Within.{EndsWithin}
use Rattle.omega_solve.specs.declared.budget.found.Found.{Found}
use Rattle.omega_solve.specs.declared.budget.observing.Progress.{Progress}

-- a refusal that `Why` holds of is not the budget's, if `Why` does not hold of the budget's
pub spares : (Why : Refusal → Type 0) (refusal : Refusal) → Why refusal → (Why (Task Budget) → ⊥) → refusal ≢ Task Budget
spares Why refusal why other e = other (subst Why e why)

-- without a run there is no report, if the refusal is not the budget's
pub none_observed : {L : Type 0} (Runs : Option Refusal → List Node → List Player → Type 0) (tells : Progress → L → L → Type 0) (every budget : ℕ) (refusal : Refusal)
    (before : L) → refusal ≢ Task Budget → IsObserved Runs (Some refusal) tells every budget before before
none_observed Runs tells every budget refusal before other = record {
  nodes = [];
  players = [];
  runs = inl (record { none = refl; refused = λ e. cc; before = λ e. other cc });
  reported = refl;
}

-- the reports of one run
pub one_observed : {L : Type 0} (Runs : Option Refusal → List Node → List Player → Type 0) (tells : Progress → L → L → Type 0) (every : ℕ) (game : List Node)
    (player : Player) (budget lifts : ℕ) (refusal : Option Refusal) (before after : L) → Runs refusal game (player ∷ [])
    → ReportsRun tells every game player budget lifts refusal before after → IsObserved Runs refusal tells every budget before after
one_observed Runs tells every game player budget lifts refusal before after is reported = record {
  nodes = game;
  players = player ∷ [];
  runs = inr is;
  reported = (lifts, reported);
}

-- the reports of two runs
pub two_observed : {L : Type 0} (Runs : Option Refusal → List Node → List Player → Type 0) (tells : Progress → L → L → Type 0) (every : ℕ) (game : List Node)
    (one other : Player) (budget lifts more : ℕ) (refusal : Option Refusal) (before between after : L) → Runs refusal game (one ∷ other ∷ [])
    → ReportsRun tells every game one budget lifts None before between → ReportsRun tells every game other budget more refusal between after
    → IsObserved Runs refusal tells every budget before after
two_observed Runs tells every game one other budget lifts more refusal before between after are first then = record {
  nodes = game;
  players = one ∷ other ∷ [];
  runs = inr are;
  reported = (lifts, between, first, (more, then));
}

-- a run that ended with no lift due did so, whatever refuses it later but the budget
pub run_refused : {L : Type 0} (tells : Progress → L → L → Type 0) (every : ℕ) (nodes : List Node) (player : Player) (budget lifts : ℕ) (refusal : Refusal)
    (before after : L) → refusal ≢ Task Budget → ReportsRun tells every nodes player budget lifts None before after
    → ReportsRun tells every nodes player budget lifts (Some refusal) before after
run_refused tells every nodes player budget lifts refusal before after other run = record {
  outcome = run.outcome;
  spent = (λ spent. (let e = run.spent.0 spent in cc), λ e. absurd (other cc));
  ended = run.ended;
  reported = run.reported;
}

runs_refused : {L : Type 0} (tells : Progress → L → L → Type 0) (every : ℕ) (nodes : List Node) (players : List Player) (budget : ℕ) (refusal : Refusal)
    (before after : L) → refusal ≢ Task Budget → ReportsRuns tells every nodes players budget None before after
    → ReportsRuns tells every nodes players budget (Some refusal) before after
runs_refused tells every nodes [] budget refusal before after other same = same
runs_refused tells every nodes (player ∷ []) budget refusal before after other (lifts, run) =
    (lifts, run_refused tells every nodes player budget lifts refusal before after other run)
runs_refused tells every nodes (player ∷ next ∷ players) budget refusal before after other (lifts, between, run, runs) =
    (lifts, between, run, runs_refused tells every nodes (next ∷ players) budget refusal between after other runs)

-- what refuses a game before a run is not the budget
pub before_not_spent : (refusal : Refusal) → ComesBefore refusal → refusal ≢ Task Budget
before_not_spent refusal comes e = (let other : Budget ≡ TooWide = subst ComesBefore e comes in cc)

-- the reports of solving for one player, whatever the result
pub one_solved : {L : Type 0} (Runs : Option Refusal → List Node → List Player → Type 0) (tells : Progress → L → L → Type 0) (every : ℕ) (game : List Node)
    (player : Player) (budget : ℕ) (result : Result Found Refusal) (before after : L) → Runs (refusal_in result) game (player ∷ [])
    → ReportsSolving tells every game player budget result before after → IsObserved Runs (refusal_in result) tells every budget before after
one_solved Runs tells every game player budget (Ok found) before after is reported =
    one_observed Runs tells every game player budget found.lifts None before after is reported
one_solved {L} Runs tells every game player budget (Err refusal) before after is (inl (comes, same)) =
    subst (λ (l : L). IsObserved Runs (Some refusal) tells every budget before l) (sym same)
    (none_observed Runs tells every budget refusal before (before_not_spent refusal comes))
one_solved Runs tells every game player budget (Err refusal) before after is (inr (comes, lifts, run)) =
    one_observed Runs tells every game player budget lifts (Some refusal) before after is run

-- the reports of solving for one player and then for the other, whatever the result of the second
pub two_solved : {L : Type 0} (Runs : Option Refusal → List Node → List Player → Type 0) (tells : Progress → L → L → Type 0) (every : ℕ) (game : List Node)
    (one other : Player) (budget lifts : ℕ) (result : Result Found Refusal) (before between after : L) → Runs (refusal_in result) game (one ∷ other ∷ [])
    → Runs (refusal_in result) game (one ∷ []) → ReportsRun tells every game one budget lifts None before between
    → ReportsSolving tells every game other budget result between after → IsObserved Runs (refusal_in result) tells every budget before after
two_solved Runs tells every game one other budget lifts (Ok found) before between after both first run reported =
    two_observed Runs tells every game one other budget lifts found.lifts None before between after both run reported
two_solved {L} Runs tells every game one other budget lifts (Err refusal) before between after both first run (inl (comes, same)) =
    subst (λ (l : L). IsObserved Runs (Some refusal) tells every budget before l) (sym same)
    (one_observed Runs tells every game one budget lifts (Some refusal) before between first
    (run_refused tells every game one budget lifts refusal before between (before_not_spent refusal comes) run))
two_solved Runs tells every game one other budget lifts (Err refusal) before between after both first run (inr (comes, more, then)) =
    two_observed Runs tells every game one other budget lifts more (Some refusal) before between after both run then

some_runs : (Runs Others : List Node → List Player → Type 0) (refusal : Option Refusal) (nodes : List Node) (players : List Player)
    → ((game : List Node) (those : List Player) → Runs game those → Others game those)
    → IsUntried refusal players ⊎ Runs nodes players → IsUntried refusal players ⊎ Others nodes players
some_runs Runs Others refusal nodes players wider (inl none) = inl none
some_runs Runs Others refusal nodes players wider (inr some) = inr (wider nodes players some)

-- the reports stay the same if another relation holds of the runs
pub observed_as : {L : Type 0} (Runs Others : Option Refusal → List Node → List Player → Type 0) (refusal : Option Refusal) (tells : Progress → L → L → Type 0)
    (every budget : ℕ) (before after : L) → ((game : List Node) (those : List Player) → Runs refusal game those → Others refusal game those)
    → IsObserved Runs refusal tells every budget before after → IsObserved Others refusal tells every budget before after
observed_as Runs Others refusal tells every budget before after wider observed = record {
  nodes = observed.nodes;
  players = observed.players;
  runs = some_runs (Runs refusal) (Others refusal) refusal observed.nodes observed.players wider observed.runs;
  reported = observed.reported;
}

made_runs : (Runs : List Node → List Player → Type 0) (nodes : List Node) (players : List Player) → IsUntried None players ⊎ Runs nodes players
    → Runs nodes players
made_runs Runs nodes players (inl untried) = absurd (untried.refused refl)
made_runs Runs nodes players (inr made) = made

-- the reports stay the same if a refusal other than the budget's comes after the runs
pub observed_refused : {L : Type 0} (Runs Others : Option Refusal → List Node → List Player → Type 0) (tells : Progress → L → L → Type 0) (every budget : ℕ)
    (refusal : Refusal) (before after : L) → refusal ≢ Task Budget
    → ((game : List Node) (those : List Player) → Runs None game those → Others (Some refusal) game those)
    → IsObserved Runs None tells every budget before after → IsObserved Others (Some refusal) tells every budget before after
observed_refused Runs Others tells every budget refusal before after other wider observed = record {
  nodes = observed.nodes;
  players = observed.players;
  runs = inr (wider observed.nodes observed.players (made_runs (Runs None) observed.nodes observed.players observed.runs));
  reported = runs_refused tells every observed.nodes observed.players budget refusal before after other observed.reported;
}

-- the reports stay the same if a result that the budget does not refuse comes after the runs
pub observed_after : {A L : Type 0} (Runs : Option Refusal → List Node → List Player → Type 0) (tells : Progress → L → L → Type 0) (every budget : ℕ)
    (result : Result A Refusal) (Why : Refusal → Type 0) (before after : L) → IfErr result Why → (Why (Task Budget) → ⊥)
    → ((refusal : Refusal) → refusal ≢ Task Budget → (game : List Node) (those : List Player) → Runs None game those → Runs (Some refusal) game those)
    → IsObserved Runs None tells every budget before after → IsObserved Runs (refusal_in result) tells every budget before after
observed_after Runs tells every budget (Ok value) Why before after why other wider observed = observed
observed_after Runs tells every budget (Err refusal) Why before after why other wider observed =
    let spared : refusal ≢ Task Budget = spares Why refusal why other in
    observed_refused Runs Runs tells every budget refusal before after spared (wider refusal spared) observed

-- the reports for one result are those for another with the same refusal
pub observed_alike : {A L : Type 0} (Runs : Option Refusal → List Node → List Player → Type 0) (tells : Progress → L → L → Type 0) (every budget : ℕ)
    (result : Result A Refusal) (Was : Refusal → Type 0) (refusal : Refusal) (before after : L) → IsErrAnd result Was
    → ((other : Refusal) → Was other → other ≡ refusal)
    → IsObserved Runs (Some refusal) tells every budget before after → IsObserved Runs (refusal_in result) tells every budget before after
observed_alike Runs tells every budget (Ok value) Was refusal before after was same observed = absurd was
observed_alike Runs tells every budget (Err other) Was refusal before after was same observed = rw (same other was) observed

-- all runs that were made stay made, whatever refuses it later but the budget
pub made_refused : (all players : List Player) (refusal : Refusal) → refusal ≢ Task Budget → AreMade all None players → AreMade all (Some refusal) players
made_refused all players refusal other made = record {
  first = made.first;
  whole = λ e. cc;
  some = λ e. absurd (other cc);
}

-- one run, whatever comes of it
pub one_made : (player : Player) (refusal : Option Refusal) → AreMade (player ∷ []) refusal (player ∷ [])
one_made player refusal = record { first = (1, refl); whole = λ e. refl; some = λ e. omega arith }

-- two runs, whatever comes of the second
pub two_made : (one other : Player) (refusal : Option Refusal) → AreMade (one ∷ other ∷ []) refusal (one ∷ other ∷ [])
two_made one other refusal = record { first = (2, refl); whole = λ e. refl; some = λ e. omega arith }

-- one run of two, which is refused
pub first_made : (one other : Player) (refusal : Refusal) → AreMade (one ∷ other ∷ []) (Some refusal) (one ∷ [])
first_made one other refusal = record { first = (1, refl); whole = λ e. cc; some = λ e. omega arith }

-- the number of reports of a run of `lifts` lifts that is done
times_of : (every lifts : ℕ) → 0 < every → (times : ℕ) × AreReports Done every lifts times
times_of every zero some = (0, (λ more. absurd (omega arith), omega arith))
times_of every (suc lifts) some =
    let before = times_of every lifts some in
    let most = before.1.1 in
    elim (cases_lt lifts (before.0 * every + every)) [
      | inl inside ↦ (before.0, (λ more. let was = before.1.0 more in omega (arith, was), omega arith))
      | inr past ↦ (suc before.0, (λ more. omega (arith, most, past), omega (arith, most, past)))
    ]

-- reports that do not change the observer
silent_each : {L : Type 0} (tells : Progress → L → L → Type 0) (player : Player) (every most times : ℕ) (observer : L)
    → ((progress : Progress) (observer : L) → tells progress observer observer) → ReportsEach tells player every most times observer observer
silent_each tells player every most zero observer silent = refl
silent_each tells player every most (suc times) observer silent =
    (observer, silent_each tells player every most times observer silent, silent _ observer)

-- a run that ended was reported to an observer whom no report changes
silent_run : {L : Type 0} (tells : Progress → L → L → Type 0) (every : ℕ) (nodes : List Node) (player : Player) (budget lifts : ℕ) (observer : L)
    → 0 < every → ((progress : Progress) (observer : L) → tells progress observer observer) → EndsWithin nodes player budget lifts
    → ReportsRun tells every nodes player budget lifts None observer observer
silent_run tells every nodes player budget lifts observer some silent ended =
    let times = times_of every lifts some in
    record {
      outcome = Done;
      spent = (λ e. cc, λ e. cc);
      ended = ended;
      reported = record {
        times = times.0;
        reports = times.1;
        reported = silent_each tells player every (most_of nodes player budget) times.0 observer silent;
      };
    }

-- so were two runs
pub silent_observed : {L : Type 0} (Runs : Option Refusal → List Node → List Player → Type 0) (tells : Progress → L → L → Type 0) (every : ℕ) (game : List Node)
    (one other : Player) (budget lifts more : ℕ) (observer : L) → Runs None game (one ∷ other ∷ []) → 0 < every
    → ((progress : Progress) (observer : L) → tells progress observer observer)
    → EndsWithin game one budget lifts → EndsWithin game other budget more → IsObserved Runs None tells every budget observer observer
silent_observed Runs tells every game one other budget lifts more observer are some silent first then =
    two_observed Runs tells every game one other budget lifts more None observer observer observer are
    (silent_run tells every game one budget lifts observer some silent first) (silent_run tells every game other budget more observer some silent then)
