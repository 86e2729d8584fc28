-- Which refusal of the referee applies: `UniversalBranch`, or `TooManyPropositions` if a label of the lasso is not
-- decided, or `Memory`.
use Rattle.std.specs.Prelude.{◌≡◌, ◌++◌, true, false, ℕ, List, Some}
use Rattle.omega_text.specs.Cases.{never, or_memory, or_task}
use Rattle.omega_text.specs.declared.refusal.Refusal.{Refusal}
use Rattle.omega_text.specs.declared.refusal.task.TaskFault.{TaskFault}
use Rattle.omega_text.specs.declared.refusal.task.TaskFault.TheVariants.{BadSolution, Budget, Controllable}
use Rattle.omega_text.specs.declared.refusal.task.TaskFault.TheVariants.{NotDeterministic, NotParity}
use Rattle.omega_text.specs.declared.refusal.task.TaskFault.TheVariants.{TooLarge, TooManyPropositions}
use Rattle.omega_text.specs.declared.refusal.task.TaskFault.TheVariants.{TooWide, UniversalBranch}
use Rattle.omega_text.specs.declared.refusal.task.TaskFault.TheVariants.{Unjudged, UnknownNode}
use Rattle.omega_hoa_automaton.specs.Automaton.{BodyEdge, Description, edge_at}
use Rattle.omega_hoa_automaton.specs.Branching.{has_universal_branching}
use Rattle.omega_lang_runs.specs.Judging.{IsHard}
use Rattle.omega_lang_runs.specs.Lasso.{label_of}
use Rattle.omega_lang_lasso_check.specs.Conditions.{IsFirst, IsLassoWalk, IsUsableNumber}

-- the edge with this number has a label that may be given up undecided
pub record IsHardEdge (a : Description) (number : ℕ) : Type 0 where
  pub edge : BodyEdge
  pub numbered : edge_at a number ≡ Some edge
  pub hard : IsHard (label_of edge)

-- an edge in the list has a label that may be given up undecided, and those before it are usable
abbrev pub IsUndecidedAlong : Description → List ℕ → Type 0
IsUndecidedAlong a numbers = (number : ℕ) × IsFirst (IsUsableNumber a) (IsHardEdge a) numbers number

-- the fault applies, and none with a lesser number does; `TooManyPropositions` only if the edges are connected and one
-- of their labels that has to be judged may be given up undecided
abbrev pub IsJudgingFault : Description → (stem cycle : List ℕ) → TaskFault → Type 0
IsJudgingFault a stem cycle NotParity = ⊥
IsJudgingFault a stem cycle UniversalBranch = has_universal_branching a ≡ true
IsJudgingFault a stem cycle TooManyPropositions = (has_universal_branching a ≡ false)
    × IsLassoWalk a stem cycle × IsUndecidedAlong a (stem ++ cycle)
IsJudgingFault a stem cycle TooWide = ⊥
IsJudgingFault a stem cycle Budget = ⊥
IsJudgingFault a stem cycle BadSolution = ⊥
IsJudgingFault a stem cycle UnknownNode = ⊥
IsJudgingFault a stem cycle Controllable = ⊥
IsJudgingFault a stem cycle Unjudged = ⊥
IsJudgingFault a stem cycle TooLarge = ⊥
IsJudgingFault a stem cycle (NotDeterministic state) = ⊥

-- the refusal of an automaton by the referee, apart from memory
abbrev pub RefusesToJudge : Description → (stem cycle : List ℕ) → Refusal → Type 0
RefusesToJudge a stem cycle = or_task (IsJudgingFault a stem cycle) never

-- the refusals of the referee
abbrev pub IsJudgeRefusal : Description → (stem cycle : List ℕ) → Refusal → Type 0
IsJudgeRefusal a stem cycle = or_memory (RefusesToJudge a stem cycle)
