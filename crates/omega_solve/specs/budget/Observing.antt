-- Reports of runs of solvers to an observer while they last.
use Rattle.std.specs.Prelude.{◌≡◌, ◌≢◌, ◌⊎◌, ◌↔◌, ℕ, zero, suc, ◌+◌, ◌*◌, ◌^◌, ◌<◌, ◌≤◌, List}
use Rattle.std.specs.Prelude.{[], ◌∷◌, length, min, take, Option, None, Some, Result, Ok, Err}
use Rattle.omega_text.specs.Cases.{never, or_memory, or_task}
use Rattle.omega_text.specs.declared.refusal.Refusal.{Refusal}
use Rattle.omega_text.specs.declared.refusal.Refusal.TheVariants.{Task}
use Rattle.omega_text.specs.declared.refusal.task.TaskFault.TheVariants.{Budget, TooWide}
use Rattle.omega_game_values.specs.declared.player.Player.{Player}
use Rattle.omega_game_values.specs.Bound.{bound_of}
use Rattle.omega_game_values.specs.Game.{Node, priorities}
use Rattle.omega_solve.specs.declared.outcome.Outcome.{Outcome}
use Rattle.omega_solve.specs.declared.outcome.Outcome.TheVariants.{Done, Spent}
use Rattle.omega_solve.specs.budget.Within.{EndsSo}
use Rattle.omega_solve.specs.declared.budget.found.Found.{Found}
use Rattle.omega_solve.specs.declared.budget.observing.Progress.{Progress}

-- the number of lifts that the program makes from one report to the next
abbrev pub lifts_between_reports : ℕ
lifts_between_reports = 2 ^ 26

-- the report that a run for the player has made `lifts` of at most `most` lifts
abbrev pub progress : Player → ℕ → ℕ → Progress
progress player lifts most = record { player = player; lifts = lifts; most = most }

-- the observer got `times` reports, one after each `every` lifts
abbrev pub ReportsEach : {L : Type 0} → (Progress → L → L → Type 0) → Player
    → (every most times : ℕ) → L → L → Type 0
ReportsEach tells player every most zero before after = after ≡ before
ReportsEach {L} tells player every most (suc times) before after =
    (between : L) × ReportsEach tells player every most times before between
    × tells (progress player (suc times * every) most) between after

-- `times` reports are due for a run of `lifts` lifts: one after each `every` lifts if a lift was still due then. So the
-- last lifts of a run are reported if it ended with the budget used up, and not if it is done.
abbrev pub AreReports : Outcome → (every lifts times : ℕ) → Type 0
AreReports Done every lifts times =
    (0 < times → times * every < lifts) × (lifts ≤ times * every + every)
AreReports Spent every lifts times = (times * every ≤ lifts) × (lifts < times * every + every)

-- the observer got the reports of a run of `lifts` lifts with this outcome
pub record IsReported {L : Type 0} (tells : Progress → L → L → Type 0) (player : Player)
    (every most : ℕ) (outcome : Outcome) (lifts : ℕ) (before after : L) : Type 0 where
  pub times : ℕ
  pub reports : AreReports outcome every lifts times
  pub reported : ReportsEach tells player every most times before after

-- the most lifts of a run: the bound of the game or, if it is less, the budget
abbrev pub most_of : List Node → Player → ℕ → ℕ
most_of nodes player budget = min (bound_of player (priorities nodes)) budget

-- the refusal of a result, if it is one
abbrev pub refusal_in : {A : Type 0} → Result A Refusal → Option Refusal
refusal_in (Ok answer) = None
refusal_in (Err refusal) = Some refusal

-- the refusal is that of the budget
abbrev pub IsSpent : Option Refusal → Type 0
IsSpent refusal = refusal ≡ Some (Task Budget)

-- a run for the player within the budget made `lifts` lifts, and the observer got its reports; a lift was due at its
-- end exactly if the refusal is that of the budget
pub record ReportsRun {L : Type 0} (tells : Progress → L → L → Type 0) (every : ℕ)
    (nodes : List Node) (player : Player) (budget lifts : ℕ) (refusal : Option Refusal)
    (before after : L) : Type 0 where
  pub outcome : Outcome
  pub spent : (outcome ≡ Spent) ↔ IsSpent refusal
  pub ended : EndsSo outcome nodes player budget lifts
  pub reported : IsReported tells player every (most_of nodes player budget) outcome lifts before after

-- a refusal of a game before a run is made: too wide, or memory
abbrev pub ComesBefore : Refusal → Type 0
ComesBefore = or_task (λ fault. fault ≡ TooWide) (or_memory never)

-- a refusal after a run was made: the budget is used up, or memory
abbrev pub ComesAfter : Refusal → Type 0
ComesAfter = or_task (λ fault. fault ≡ Budget) (or_memory never)

-- the observer got the reports of the run that gave this result; an answer has as many lifts as its run
abbrev pub ReportsFound : {L : Type 0} → (Progress → L → L → Type 0) → (every : ℕ) → List Node
    → Player → (budget : ℕ) → Result Found Refusal → L → L → Type 0
ReportsFound tells every nodes player budget (Ok found) before after =
    ReportsRun tells every nodes player budget found.lifts None before after
ReportsFound tells every nodes player budget (Err refusal) before after = ComesAfter refusal
    × (lifts : ℕ) × ReportsRun tells every nodes player budget lifts (Some refusal) before after

-- solving gave this result, and the observer got the reports of its run; none if it was refused before a run
abbrev pub ReportsSolving : {L : Type 0} → (Progress → L → L → Type 0) → (every : ℕ) → List Node
    → Player → (budget : ℕ) → Result Found Refusal → L → L → Type 0
ReportsSolving tells every nodes player budget (Ok found) before after =
    ReportsFound tells every nodes player budget (Ok found) before after
ReportsSolving tells every nodes player budget (Err refusal) before after =
    (ComesBefore refusal × (after ≡ before))
    ⊎ ReportsFound tells every nodes player budget (Err refusal) before after

-- the observer got the reports of runs for these players, one after another; each but the last ended with no lift due
abbrev pub ReportsRuns : {L : Type 0} → (Progress → L → L → Type 0) → (every : ℕ) → List Node
    → List Player → (budget : ℕ) → Option Refusal → L → L → Type 0
ReportsRuns tells every nodes [] budget refusal before after = after ≡ before
ReportsRuns tells every nodes (player ∷ []) budget refusal before after =
    (lifts : ℕ) × ReportsRun tells every nodes player budget lifts refusal before after
ReportsRuns {L} tells every nodes (player ∷ other ∷ players) budget refusal before after =
    (lifts : ℕ) × (between : L) × ReportsRun tells every nodes player budget lifts None before between
    × ReportsRuns tells every nodes (other ∷ players) budget refusal between after

-- runs were made for the first of all these players: for all if nothing is refused, and for at least one if the refusal
-- is that of the budget
pub record AreMade (all : List Player) (refusal : Option Refusal)
    (players : List Player) : Type 0 where
  pub first : (count : ℕ) × (players ≡ take count all)
  pub whole : refusal ≡ None → players ≡ all
  pub some : IsSpent refusal → 0 < length players

-- no run was made, since it was refused before, and not for the budget
pub record IsUntried (refusal : Option Refusal) (players : List Player) : Type 0 where
  pub none : players ≡ []
  pub refused : refusal ≢ None
  pub before : IsSpent refusal → ⊥

-- the observer got the reports of the runs for some players in a game, and `Runs` holds of these; or there was no run,
-- and no report
pub record IsObserved {L : Type 0} (Runs : Option Refusal → List Node → List Player → Type 0)
    (refusal : Option Refusal) (tells : Progress → L → L → Type 0) (every budget : ℕ)
    (before after : L) : Type 0 where
  pub nodes : List Node
  pub players : List Player
  pub runs : IsUntried refusal players ⊎ Runs refusal nodes players
  pub reported : ReportsRuns tells every nodes players budget refusal before after
