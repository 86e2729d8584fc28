-- Which refusal a solution text of a game meets, and their order: 4, then 1 or 2 at the least place, then 3, then 53.
use Rattle.std.specs.Prelude.{◌≡◌, ℕ, ◌≤◌, ◌⊎◌, List, length}
use Rattle.omega_text.specs.Cases.{never, or_task, or_text}
use Rattle.omega_text.specs.Limits.{most_text}
use Rattle.omega_text.specs.declared.refusal.Refusal.{Refusal}
use Rattle.omega_text.specs.declared.refusal.Refusal.TheVariants.{Memory}
use Rattle.omega_text.specs.declared.refusal.task.TaskFault.TheVariants.{BadSolution}
use Rattle.omega_game_values.specs.Game.{Node}
use Rattle.omega_text.specs.Syntax.{IsTextFault, IsTextOf}
use Rattle.omega_pg.specs.solution.BadSolution.{IsNoSolution}
use Rattle.omega_pg.specs.solution.Grammar.{RawSolution, solution_syntax}

-- the bytes are a text of the grammar, and what is written is no solution of the game
pub record IsBadSolution (nodes : List Node) (source : List ℕ) : Type 0 where
  pub short : length source ≤ most_text
  pub raw : RawSolution
  pub writes : IsTextOf solution_syntax source raw
  pub wrong : IsNoSolution nodes raw

-- the refusal of a solution text of the game
abbrev pub IsSolutionRefusal : List Node → List ℕ → Refusal → Type 0
IsSolutionRefusal nodes source = or_text (IsTextFault solution_syntax source)
    (or_task (λ fault. (fault ≡ BadSolution) × IsBadSolution nodes source) never)

-- what a call that reads may answer in place of a solution: memory, or the refusal of the text
abbrev pub IsReadSolutionRefusal : List Node → List ℕ → Refusal → Type 0
IsReadSolutionRefusal nodes source refusal =
    (refusal ≡ Memory) ⊎ IsSolutionRefusal nodes source refusal
