-- What the line about a solution text tells: a reason to refuse what is written.
use Rattle.std.specs.Prelude.{◌≡◌, ◌≢◌, ◌⊎◌, ℕ, ◌<◌, Option, Some, None, List, All, Contains}
use Rattle.std.specs.Prelude.{length, slice_index_or}
use Rattle.omega_game_values.specs.Game.{Node, greatest_identifier, identifier_at}
use Rattle.omega_game_values.specs.Game.{identifiers, owner_at, successors_at}
use Rattle.omega_game_values.specs.declared.player.Player.{Player}
use Rattle.omega_pg.specs.solution.BadSolution.{HasOtherNumber}
use Rattle.omega_pg.specs.solution.Grammar.{RawSolution, SolutionLine, no_line}
use Rattle.omega_pg.specs.solution.Winners.{identifiers_of}
use Rattle.omega_pg_diagnostics.specs.GameCauses.{twice_line}
use Rattle.omega_pg_diagnostics.specs.SolutionCauses.{greatest_line, missing_line, needless_line}
use Rattle.omega_pg_diagnostics.specs.SolutionCauses.{no_choice_line, unknown_line, wrong_choice_line}

-- the identifier of the line at a place
abbrev pub named_at : List SolutionLine → ℕ → ℕ
named_at lines v = (slice_index_or lines v no_line).identifier

-- the header's number is not the greatest identifier, and both are told
pub record TellsNumber (nodes : List Node) (raw : RawSolution) (line : List ℕ) : Type 0 where
  pub other : HasOtherNumber nodes raw
  pub said : line ≡ greatest_line raw.greatest (greatest_identifier nodes)

-- a line is for this node, which is not in the game
pub record TellsUnknown (nodes : List Node) (lines : List SolutionLine) (line : List ℕ) : Type 0 where
  pub id : ℕ
  pub written : Contains (identifiers_of lines) id
  pub unknown : All (λ other. other ≢ id) (identifiers nodes)
  pub said : line ≡ unknown_line id

-- two lines are for this node
pub record TellsTwice (lines : List SolutionLine) (line : List ℕ) : Type 0 where
  pub first : ℕ
  pub second : ℕ
  pub later : first < second
  pub inside : second < length lines
  pub same : named_at lines first ≡ named_at lines second
  pub said : line ≡ twice_line (named_at lines second)

-- the line of this node of the game is not at its place
pub record TellsMissing (nodes : List Node) (lines : List SolutionLine) (line : List ℕ) : Type 0 where
  pub place : ℕ
  pub node : place < length nodes
  pub missing : place < length lines → named_at lines place ≢ identifier_at nodes place
  pub said : line ≡ missing_line (identifier_at nodes place)

-- a node with this winner has no choice although its owner wins, or one although its owner does not, or one that is
-- none of its successors
abbrev pub TellsChoiceOf : List Node → ℕ → Player → Option ℕ → List ℕ → Type 0
TellsChoiceOf nodes v winner None line =
    (owner_at nodes v ≡ winner) × (line ≡ no_choice_line (identifier_at nodes v))
TellsChoiceOf nodes v winner (Some choice) line =
    ((owner_at nodes v ≢ winner) × (line ≡ needless_line (identifier_at nodes v)))
    ⊎ (All (λ w. identifier_at nodes w ≢ choice) (successors_at nodes v)
    × (line ≡ wrong_choice_line (identifier_at nodes v) choice))

-- the line of this node is at its place, and its choice is wrong
pub record TellsChoice (nodes : List Node) (lines : List SolutionLine) (line : List ℕ) : Type 0 where
  pub place : ℕ
  pub inside : place < length lines
  pub named : named_at lines place ≡ identifier_at nodes place
  pub wrong : TellsChoiceOf nodes place (slice_index_or lines place no_line).winner
      (slice_index_or lines place no_line).successor line

-- the line tells a reason to refuse what is written
abbrev pub TellsReason : List Node → RawSolution → List ℕ → Type 0
TellsReason nodes raw line =
    TellsNumber nodes raw line
    ⊎ (TellsUnknown nodes raw.lines line
    ⊎ (TellsTwice raw.lines line
    ⊎ (TellsMissing nodes raw.lines line ⊎ TellsChoice nodes raw.lines line)))
