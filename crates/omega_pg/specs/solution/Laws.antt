-- Laws of the texts of a game's solutions, whatever reads or writes them.
use Rattle.std.specs.Prelude.{◌≡◌, ◌↔◌, ℕ, ◌≤◌, ◌⊎◌, List, length}
use Rattle.omega_text.specs.Limits.{most_text}
use Rattle.omega_text.specs.declared.refusal.Refusal.{Refusal}
use Rattle.omega_game_values.specs.Game.{IsGame, IsWithinLimits, Node}
use Rattle.omega_pg.specs.solution.BadSolution.{IsNoSolution}
use Rattle.omega_pg.specs.solution.Grammar.{RawSolution}
use Rattle.omega_game_values.specs.Solution.{IsSolution}
use Rattle.omega_pg.specs.solution.Text.{raw_solution}
use Rattle.omega_pg.specs.solution.Canonical.{solution_text}
use Rattle.omega_pg.specs.solution.Refusing.{IsSolutionRefusal}
use Rattle.omega_pg.specs.solution.Text.{IsSolutionText}
use Rattle.omega_game_values.specs.declared.solution.Solution.{Solution}

-- a text describes at most one solution of a game
abbrev pub SolutionsOfTextsAreOne : Type 0
SolutionsOfTextsAreOne =
    (nodes : List Node) (source : List ℕ) (one other : Solution) → IsGame nodes
    → IsSolutionText nodes source one → IsSolutionText nodes source other → one ≡ other

-- a text has at most one refusal as a solution text of a game
abbrev pub SolutionRefusalsAreOne : Type 0
SolutionRefusalsAreOne =
    (nodes : List Node) (source : List ℕ) (one other : Refusal)
    → IsSolutionRefusal nodes source one → IsSolutionRefusal nodes source other → one ≡ other

-- a text that describes a solution of a game has no refusal
abbrev pub SolutionsAreNotRefused : Type 0
SolutionsAreNotRefused =
    (nodes : List Node) (source : List ℕ) (solution : Solution) (refusal : Refusal)
    → IsSolutionText nodes source solution → IsSolutionRefusal nodes source refusal → ⊥

-- a text describes a solution of a game or has a refusal
abbrev pub SolutionTextsAreReadOrRefused : Type 0
SolutionTextsAreReadOrRefused =
    (nodes : List Node) (source : List ℕ)
    → ((solution : Solution) × IsSolutionText nodes source solution)
    ⊎ ((refusal : Refusal) × IsSolutionRefusal nodes source refusal)

-- the written form of a solution, within the limit of texts, describes that solution
abbrev pub WrittenSolutionsAreRead : Type 0
WrittenSolutionsAreRead =
    (nodes : List Node) (solution : Solution) → IsGame nodes → IsWithinLimits nodes
    → IsSolution nodes solution → length (solution_text nodes solution) ≤ most_text
    → IsSolutionText nodes (solution_text nodes solution) solution

-- there is a reason to refuse what is written exactly if no solution of the game is written so
abbrev pub ReasonsAreExact : Type 0
ReasonsAreExact = (nodes : List Node) (raw : RawSolution) → IsNoSolution nodes raw
    ↔ ((solution : Solution) → IsSolution nodes solution → raw ≡ raw_solution nodes solution → ⊥)
