-- The winners that a solution text gives, whatever its choices, and the refusal of a text that gives none.
use Rattle.std.specs.Prelude.{◌≡◌, ℕ, ◌≤◌, ◌⊎◌, List, length, map}
use Rattle.omega_text.specs.Cases.{never, or_task, or_text}
use Rattle.omega_text.specs.Limits.{most_text}
use Rattle.omega_text.specs.Syntax.{IsTextFault, IsTextOf}
use Rattle.omega_text.specs.declared.refusal.Refusal.{Refusal}
use Rattle.omega_text.specs.declared.refusal.Refusal.TheVariants.{Memory}
use Rattle.omega_text.specs.declared.refusal.task.TaskFault.TheVariants.{BadSolution}
use Rattle.omega_game_values.specs.Game.{Node, greatest_identifier, identifiers}
use Rattle.omega_game_values.specs.declared.player.Player.{Player}
use Rattle.omega_pg.specs.solution.BadSolution.{HasOtherIdentifiers, HasOtherNumber}
use Rattle.omega_pg.specs.solution.Grammar.{RawSolution, SolutionLine, solution_syntax}

-- the identifiers of lines
abbrev pub identifiers_of : List SolutionLine → List ℕ
identifiers_of lines = map (λ line. line.identifier) lines

-- the winners of lines
abbrev pub winners_of : List SolutionLine → List Player
winners_of lines = map (λ line. line.winner) lines

-- what is written names the nodes of the game: its number is the greatest identifier, and the identifiers of its lines
-- are those of the game in rising order, each once
pub record NamesNodes (nodes : List Node) (raw : RawSolution) : Type 0 where
  pub number : raw.greatest ≡ greatest_identifier nodes
  pub named : identifiers_of raw.lines ≡ identifiers nodes

-- the text gives these winners, by place, to the nodes of the game
pub record IsWinnersText (nodes : List Node) (source : List ℕ) (winners : List Player) : Type 0 where
  pub short : length source ≤ most_text
  pub raw : RawSolution
  pub writes : IsTextOf solution_syntax source raw
  pub names : NamesNodes nodes raw
  pub given : winners ≡ winners_of raw.lines

-- what is written does not name the nodes of the game
abbrev pub NamesOthers : List Node → RawSolution → Type 0
NamesOthers nodes raw = HasOtherNumber nodes raw ⊎ HasOtherIdentifiers nodes raw

-- the bytes are a text of the grammar, and what is written does not name the nodes of the game
pub record IsBadWinners (nodes : List Node) (source : List ℕ) : Type 0 where
  pub short : length source ≤ most_text
  pub raw : RawSolution
  pub writes : IsTextOf solution_syntax source raw
  pub wrong : NamesOthers nodes raw

-- the refusal of a text that gives no winners of the game
abbrev pub IsWinnersRefusal : List Node → List ℕ → Refusal → Type 0
IsWinnersRefusal nodes source =
    or_text (IsTextFault solution_syntax source)
    (or_task (λ fault. (fault ≡ BadSolution) × IsBadWinners nodes source) never)

-- what a call that reads may answer in place of winners: memory, or the refusal of the text
abbrev pub IsReadWinnersRefusal : List Node → List ℕ → Refusal → Type 0
IsReadWinnersRefusal nodes source refusal =
    (refusal ≡ Memory) ⊎ IsWinnersRefusal nodes source refusal
