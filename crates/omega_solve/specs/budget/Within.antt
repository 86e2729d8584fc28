-- Solving within a budget: lifting runs from the all-zero table, answers, and refusals.
use Rattle.std.specs.Prelude.{◌≡◌, ◌≤◌, List, ℕ, false, length, true}
use Rattle.omega_text.specs.Cases.{never, or_memory, or_task}
use Rattle.omega_text.specs.declared.refusal.Refusal.{Refusal}
use Rattle.omega_text.specs.declared.refusal.task.TaskFault.{TaskFault}
use Rattle.omega_text.specs.declared.refusal.task.TaskFault.TheVariants.{Budget, TooWide}
use Rattle.omega_game_values.specs.declared.player.Player.{Player}
use Rattle.omega_game_values.specs.Bound.{bound_of}
use Rattle.omega_game_values.specs.Game.{Node, priorities}
use Rattle.omega_lift_laws.specs.Answer.{AreChoices, won_in}
use Rattle.omega_lift_laws.specs.Measure.{Measure}
use Rattle.omega_lift_laws.specs.Run.{IsDue, IsLiftingRun, IsStable, zero_table}
use Rattle.omega_measure.specs.Table.{is_too_wide}
use Rattle.omega_solve.specs.Headline.{IsExact}
use Rattle.omega_solve.specs.declared.outcome.Outcome.{Outcome}
use Rattle.omega_solve.specs.declared.turns.TurnsAnswer.{TurnsAnswer}
use Rattle.omega_solve.specs.declared.outcome.Outcome.TheVariants.{Done, Spent}
use Rattle.omega_solve.specs.declared.budget.found.Found.{Found}

-- a lifting run of exactly `lifts` entries leads from the all-zero table to this one
pub record LiftsTo (nodes : List Node) (player : Player) (lifts : ℕ)
    (table : List Measure) : Type 0 where
  pub places : List ℕ
  pub run : IsLiftingRun nodes player (zero_table player (priorities nodes)) places table
  pub counted : length places ≡ lifts

-- a lifting run of exactly `lifts` entries from the all-zero table leaves no lift due
pub record EndsAfter (nodes : List Node) (player : Player) (lifts : ℕ) : Type 0 where
  pub table : List Measure
  pub lifted : LiftsTo nodes player lifts table
  pub done : IsStable nodes player table

-- a lifting run of exactly `lifts` entries from the all-zero table leaves a lift due
pub record GoesOnAfter (nodes : List Node) (player : Player) (lifts : ℕ) : Type 0 where
  pub table : List Measure
  pub lifted : LiftsTo nodes player lifts table
  pub place : ℕ
  pub due : IsDue nodes player table place

-- `lifts` lifts, at most the budget and at most the bound, leave none due
pub record EndsWithin (nodes : List Node) (player : Player) (budget lifts : ℕ) : Type 0 where
  pub within : lifts ≤ budget
  pub bounded : lifts ≤ bound_of player (priorities nodes)
  pub ended : EndsAfter nodes player lifts

-- the end of a run of `lifts` lifts within the budget: none is due, or they are the whole budget and one is due
abbrev pub EndsSo : Outcome → List Node → Player → (budget lifts : ℕ) → Type 0
EndsSo Done nodes player budget lifts = EndsWithin nodes player budget lifts
EndsSo Spent nodes player budget lifts = (lifts ≡ budget) × GoesOnAfter nodes player budget

-- an answer within a budget: exact, after `lifts` lifts. It is read in the table that they lead to: a place is won if
-- its measure is below top, and if the player owns it, its choice is the first successor of least allowance
pub record IsFound (nodes : List Node) (player : Player) (budget : ℕ) (found : Found) : Type 0 where
  pub exact : IsExact nodes player found.won.items found.choice.items
  pub ended : EndsWithin nodes player budget found.lifts
  pub below_top : found.won.items ≡ won_in ended.ended.table
  pub chosen : AreChoices nodes player ended.ended.table found.choice.items

-- an answer without the number of its lifts, which was found with some number of them, at most the bound
abbrev pub IsFoundUncounted : List Node → Player → TurnsAnswer → Type 0
IsFoundUncounted nodes player answer =
    (lifts : ℕ) × IsFound nodes player (bound_of player (priorities nodes))
    (record { won = answer.won; choice = answer.choice; lifts = lifts })

-- the fault of solving a game within a budget: it is too wide, or else a lifting run of exactly the budget's entries
-- leaves a lift due
abbrev pub IsSolvingFault : List Node → Player → ℕ → TaskFault → Type 0
IsSolvingFault nodes player budget TooWide = is_too_wide player (priorities nodes) ≡ true
IsSolvingFault nodes player budget Budget =
    (is_too_wide player (priorities nodes) ≡ false) × GoesOnAfter nodes player budget
IsSolvingFault nodes player budget fault = ⊥

-- the refusal of solving a game within a budget: such a fault, or memory
abbrev pub IsSolvingRefusal : List Node → Player → ℕ → Refusal → Type 0
IsSolvingRefusal nodes player budget = or_task (IsSolvingFault nodes player budget) (or_memory never)
