-- What `omega_solve` leaves.
use Rattle.std.specs.Prelude.{◌≡◌, ◌≤◌, ◌==◌, ◌⊎◌, ℕ, Bool, true, false}
use Rattle.std.specs.Prelude.{if◌then◌else◌, List, None, All, length}
use Rattle.omega_game_values.specs.Solution.{IsExactSolution}
use Rattle.omega_solve.specs.Turns.{IsNarrow}
use Rattle.omega_arrays.specs.declared.fault.ArrayFault.{ArrayFault}
use Rattle.omega_arrays.specs.declared.solving.Lifts.{Lifts}
use Rattle.omega_arrays.specs.Answer.{solution_in, wrong_room}
use Rattle.omega_arrays.specs.Arrays.{GameArrays, nodes_in}
use Rattle.omega_arrays.specs.Shape.{IsSized}
use Rattle.omega_arrays.specs.Solving.{AreLifts, IsArraysSolvingRefusal, budget_of, or_shape}
use Rattle.omega.specs.declared.outcome.Outcome.{Outcome}
use Rattle.omega.specs.Outcome.{given, outcome_of}

-- whether a number asks for something: any but 0
abbrev pub asks : ℕ → Bool
asks number = if number == 0 then false else true

-- the game was solved: the arrays hold an exact solution of it, and the lifts are those that were made; unless a search
-- was requested, it is too wide for neither player
pub record IsSolvedGame (a : GameArrays) (by_search budget : ℕ)
    (winners winners' choices choices' : List ℕ) (lifts : Lifts) : Type 0 where
  pub shape : wrong_room a (length winners) (length choices) ≡ None
  pub sized : IsSized a
  pub narrow : asks by_search ≡ false → IsNarrow (nodes_in a)
  pub exact : IsExactSolution (nodes_in a) (solution_in winners' choices')
  pub players : All (λ p. p ≤ 1) winners'
  pub lifted : AreLifts (asks by_search) (nodes_in a) (budget_of budget) lifts

-- it was refused, and nothing was written
pub record IsSolveRefused (a : GameArrays) (budget : ℕ) (outcome : Outcome)
    (winners winners' choices choices' : List ℕ) (lifts lifts' : Lifts) : Type 0 where
  pub fault : ArrayFault
  pub outcome_is : outcome ≡ outcome_of fault
  pub refused : or_shape (wrong_room a (length winners) (length choices))
      (IsArraysSolvingRefusal a (budget_of budget)) fault
  pub winners_kept : winners' ≡ winners
  pub choices_kept : choices' ≡ choices
  pub lifts_kept : lifts' ≡ lifts

-- what `omega_solve` leaves
abbrev pub IsSolveOutcome : GameArrays → (by_search budget : ℕ) → Outcome
    → (winners winners' choices choices' : List ℕ) → (lifts lifts' : Lifts) → Type 0
IsSolveOutcome a by_search budget outcome winners winners' choices choices' lifts lifts' =
    ((outcome ≡ given) × IsSolvedGame a by_search budget winners winners' choices choices' lifts')
    ⊎ IsSolveRefused a budget outcome winners winners' choices choices' lifts lifts'
