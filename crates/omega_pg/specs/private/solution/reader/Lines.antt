-- What lines say of a game, and how they are judged one by one.
use Rattle.std.specs.Prelude.{◌≡◌, ◌≢◌, ◌↔◌, ℕ, ◌<◌, ◌≤◌, ◌⊎◌, Bool, true, false, Option, None, IfSome}
use Rattle.std.specs.Prelude.{IsSome, List, length, option_map, slice_index_or, Result, Ok, Err}
use Rattle.omega_game_values.specs.Game.{HasEdge, Node, owner_at, identifier_at}
use Rattle.omega_game_values.specs.declared.player.Player.{Player}
use Rattle.omega_game_values.specs.declared.player.Player.TheVariants.{One, Zero}
use Rattle.omega_pg.specs.solution.BadSolution.{IsNoSolution, IsWrongSuccessor}
use Rattle.omega_text.specs.declared.refusal.Refusal.{Refusal}
use Rattle.omega_text.specs.declared.refusal.Refusal.TheVariants.{Task}
use Rattle.omega_text.specs.declared.refusal.task.TaskFault.TheVariants.{BadSolution}
use Rattle.omega_pg.specs.solution.Grammar.{SolutionLine, RawSolution, no_line}
use Rattle.omega_game_values.specs.Solution.{IsSolution}
use Rattle.omega_pg.specs.solution.Text.{raw_solution}
use Rattle.omega_game_values.specs.declared.solution.Solution.{Solution}
use Rattle.omega_pg.specs.declared.solution.lines.ChoiceLines.{ChoiceLines}

-- a line says this choice of the node at a place
pub record Says (nodes : List Node) (v : ℕ) (line : SolutionLine) (choice : Option ℕ) : Type 0 where
  pub inside : v < length nodes
  pub identifier : line.identifier ≡ identifier_at nodes v
  pub successor : line.successor ≡ option_map (identifier_at nodes) choice
  pub chosen : IsSome choice ↔ (owner_at nodes v ≡ line.winner)
  pub listed : IfSome choice (HasEdge nodes v)

-- a line is not that of the node at a place: no such node, or another identifier, or a wrong successor
abbrev pub IsWrongLine : List Node → ℕ → SolutionLine → Type 0
IsWrongLine nodes v line = (length nodes ≤ v)
    ⊎ ((line.identifier ≢ identifier_at nodes v) ⊎ IsWrongSuccessor nodes v line.winner line.successor)

-- a choice as an entry of the player's strategy: it is there if the player owns the node
abbrev pub entry_of : Player → Player → Option ℕ → Option ℕ
entry_of Zero Zero choice = choice
entry_of Zero One choice = None
entry_of One Zero choice = None
entry_of One One choice = choice

-- the entries of a place keep what a line says
pub record IsKept (nodes : List Node) (v : ℕ) (line : SolutionLine) (winner : Player)
    (zero one : Option ℕ) : Type 0 where
  pub choice : Option ℕ
  pub says : Says nodes v line choice
  pub winner_kept : winner ≡ line.winner
  pub zero_kept : zero ≡ entry_of Zero (owner_at nodes v) choice
  pub one_kept : one ≡ entry_of One (owner_at nodes v) choice

-- each line says the choice that is kept for it
pub record AreSaid (nodes : List Node) (lines : List SolutionLine) (winners : List Player)
    (zero one : List (Option ℕ)) : Type 0 where
  pub winners_count : length winners ≡ length lines
  pub zero_count : length zero ≡ length lines
  pub one_count : length one ≡ length lines
  pub said : (v : ℕ) → v < length lines → IsKept nodes v (slice_index_or lines v no_line)
      (slice_index_or winners v Zero) (slice_index_or zero v None) (slice_index_or one v None)

-- some line is wrong
pub record HasWrongLine (nodes : List Node) (lines : List SolutionLine) : Type 0 where
  pub place : ℕ
  pub inside : place < length lines
  pub wrong : IsWrongLine nodes place (slice_index_or lines place no_line)

-- the lines so far are kept, or one of them is wrong
abbrev pub AreJudged : List Node → List SolutionLine → Bool → List Player → List (Option ℕ)
    → List (Option ℕ) → Type 0
AreJudged nodes lines true winners zero one = AreSaid nodes lines winners zero one
AreJudged nodes lines false winners zero one = HasWrongLine nodes lines

-- the lines so far are judged, by what is kept of them
abbrev pub KeepsLines : List Node → List SolutionLine → ChoiceLines → Type 0
KeepsLines nodes lines kept =
    AreJudged nodes lines kept.good kept.winners.items kept.zero.items kept.one.items

-- the outcome of the lines after a header: the solution that is written so, or `BadSolution` if no solution is
abbrev pub IsOutcome : List Node → RawSolution → Result Solution Refusal → Type 0
IsOutcome nodes raw (Ok solution) = IsSolution nodes solution × (raw ≡ raw_solution nodes solution)
IsOutcome nodes raw (Err refusal) =
    (refusal ≡ Task BadSolution) × IsNoSolution nodes raw
