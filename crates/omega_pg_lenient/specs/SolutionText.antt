-- The solution that a lenient solution text describes, or its refusal.
use Rattle.std.specs.Prelude.{◌≡◌, ℕ, List, length}
use Rattle.omega_text.specs.declared.refusal.Refusal.{Refusal}
use Rattle.omega_game_values.specs.Game.{Node}
use Rattle.omega_game_values.specs.declared.solution.Solution.{Solution}
use Rattle.omega_pg.specs.solution.Refusing.{IsReadSolutionRefusal, IsSolutionRefusal}
use Rattle.omega_pg.specs.solution.Text.{IsSolutionText}
use Rattle.omega_pg_lenient.specs.SolutionLines.{bare_text}

-- the text describes the solution of the game that its bare text describes
abbrev pub IsLenientSolutionText : List Node → List ℕ → Solution → Type 0
IsLenientSolutionText nodes source solution = IsSolutionText nodes (bare_text source) solution

-- the refusal of the text is that of its bare text
abbrev pub RefusesLenientSolution : List Node → List ℕ → Refusal → Type 0
RefusesLenientSolution nodes source = IsSolutionRefusal nodes (bare_text source)

-- what a call that reads may answer in place of a solution: memory, or the refusal of the text
abbrev pub IsLenientReadSolutionRefusal : List Node → List ℕ → Refusal → Type 0
IsLenientReadSolutionRefusal nodes source refusal =
    IsReadSolutionRefusal nodes (bare_text source) refusal

-- a bare text has a byte for each of the text
abbrev pub BareTextsKeepPlaces : Type 0
BareTextsKeepPlaces = (source : List ℕ) → length (bare_text source) ≡ length source

-- a solution text describes the same solution as a lenient text
abbrev pub StrictSolutionsAreLenient : Type 0
StrictSolutionsAreLenient =
    (nodes : List Node) (source : List ℕ) (solution : Solution)
    → IsSolutionText nodes source solution → IsLenientSolutionText nodes source solution
