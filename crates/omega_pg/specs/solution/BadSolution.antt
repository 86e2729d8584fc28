-- The reasons of the refusal `BadSolution`: why no solution of the game is written so.
use Rattle.std.specs.Prelude.{◌≡◌, ◌≢◌, ℕ, ◌<◌, ◌⊎◌, Option, Some, None}
use Rattle.std.specs.Prelude.{List, length, map, All, slice_index_or}
use Rattle.omega_game_values.specs.Game.{Node, identifiers, owner_at, successors_at}
use Rattle.omega_game_values.specs.Game.{greatest_identifier, identifier_at}
use Rattle.omega_game_values.specs.declared.player.Player.{Player}
use Rattle.omega_pg.specs.solution.Grammar.{SolutionLine, RawSolution, no_line}

-- the header's number is not the game's greatest identifier
abbrev pub HasOtherNumber : List Node → RawSolution → Type 0
HasOtherNumber nodes raw = raw.greatest ≢ greatest_identifier nodes

-- the identifiers of the lines are not those of the game in rising order, each once
abbrev pub HasOtherIdentifiers : List Node → RawSolution → Type 0
HasOtherIdentifiers nodes raw = map (λ line. line.identifier) raw.lines ≢ identifiers nodes

-- for the node at a place and its winner: a successor is missing although the owner wins, or is given although the
-- owner loses, or is not in the node's list
abbrev pub IsWrongSuccessor : List Node → ℕ → Player → Option ℕ → Type 0
IsWrongSuccessor nodes v winner None = owner_at nodes v ≡ winner
IsWrongSuccessor nodes v winner (Some id) =
    (owner_at nodes v ≢ winner) ⊎ All (λ w. identifier_at nodes w ≢ id) (successors_at nodes v)

-- the successor of some line is wrong
pub record HasWrongSuccessor (nodes : List Node) (lines : List SolutionLine) : Type 0 where
  pub place : ℕ
  pub inside : place < length lines
  pub wrong : IsWrongSuccessor nodes place (slice_index_or lines place no_line).winner
      (slice_index_or lines place no_line).successor

-- what is written is no solution of the game, for one of these reasons
abbrev pub IsNoSolution : List Node → RawSolution → Type 0
IsNoSolution nodes raw =
    HasOtherNumber nodes raw ⊎ (HasOtherIdentifiers nodes raw ⊎ HasWrongSuccessor nodes raw.lines)
