-- What the lines about texts of games and of solutions say of the refusals of these texts.
use Rattle.std.specs.Prelude.{◌≡◌, ℕ, List, []}
use Rattle.omega_game_values.specs.Game.{Node}
use Rattle.omega_game_values.specs.declared.solution.Solution.{Solution}
use Rattle.omega_pg_diagnostics.specs.GameCauses.{IsGameCause, NamesAbove, NamesRepeat, NamesUndefined}
use Rattle.omega_pg_diagnostics.specs.SolutionCauses.{IsSolutionCause}
use Rattle.omega_pg_diagnostics.specs.SolutionReasons.{TellsReason}
use Rattle.omega_pg.specs.game.Grammar.{RawGame, game_syntax}
use Rattle.omega_pg.specs.game.Refusing.{IsRefusal}
use Rattle.omega_pg.specs.game.Text.{IsGameText}
use Rattle.omega_pg.specs.solution.Grammar.{RawSolution, solution_syntax}
use Rattle.omega_pg.specs.solution.Refusing.{IsSolutionRefusal}
use Rattle.omega_pg.specs.solution.Text.{IsSolutionText}
use Rattle.omega_text.specs.Syntax.{IsTextOf}
use Rattle.omega_text.specs.declared.refusal.Refusal.{Refusal}
use Rattle.omega_text.specs.declared.refusal.Refusal.TheVariants.{Game, Task}
use Rattle.omega_text.specs.declared.refusal.game.GameFault.{GameFault}
use Rattle.omega_text.specs.declared.refusal.game.GameFault.TheVariants.{DuplicateNode, HeaderTooSmall}
use Rattle.omega_text.specs.declared.refusal.game.GameFault.TheVariants.{TooManyEdges, TooManyNodes}
use Rattle.omega_text.specs.declared.refusal.game.GameFault.TheVariants.{UndefinedSuccessor}

-- the line for a fault: a node that comes twice for 10, a successor that is no node for 11, a node above the header's
-- number for 12, and no line for another fault
abbrev pub IsCauseFor : GameFault → RawGame → List ℕ → Type 0
IsCauseFor DuplicateNode raw line = NamesRepeat raw.specs line
IsCauseFor UndefinedSuccessor raw line = NamesUndefined raw.specs line
IsCauseFor HeaderTooSmall raw line = NamesAbove raw.header raw.specs line
IsCauseFor TooManyNodes raw line = line ≡ []
IsCauseFor TooManyEdges raw line = line ≡ []

-- the line is about this fault of what is written in the text
pub record TellsFault (text : List ℕ) (fault : GameFault) (line : List ℕ) : Type 0 where
  pub raw : RawGame
  pub writes : IsTextOf game_syntax text raw
  pub about : IsCauseFor fault raw line

-- the line for a game text is about the fault for which the text is refused, and a text that describes a game has none
abbrev pub CausesAreOfFaults : Type 0
CausesAreOfFaults = (text line : List ℕ) → IsGameCause text line
    → ((fault : GameFault) → IsRefusal text (Game fault) → TellsFault text fault line)
    × ((game : List Node) → IsGameText text game → line ≡ [])

-- the line tells a reason why what is written in the text is no solution of the game
pub record TellsSolutionFault (nodes : List Node) (text line : List ℕ) : Type 0 where
  pub raw : RawSolution
  pub writes : IsTextOf solution_syntax text raw
  pub about : TellsReason nodes raw line

-- for a solution text that is refused with 53 the line tells a reason, and for no other refusal there is a line
abbrev pub TellsSolutionRefusal : List Node → List ℕ → Refusal → List ℕ → Type 0
TellsSolutionRefusal nodes text (Task fault) line = TellsSolutionFault nodes text line
TellsSolutionRefusal nodes text refusal line = line ≡ []

-- the line for a solution text of a game is about its refusal, and a text that describes a solution has none
abbrev pub SolutionCausesAreOfRefusals : Type 0
SolutionCausesAreOfRefusals =
    (nodes : List Node) (text line : List ℕ) → IsSolutionCause nodes text line
    → ((refusal : Refusal) → IsSolutionRefusal nodes text refusal
    → TellsSolutionRefusal nodes text refusal line)
    × ((solution : Solution) → IsSolutionText nodes text solution → line ≡ [])
