-- The game that a text describes.
use Rattle.std.specs.Prelude.{ℕ, ◌≤◌, Option, List, length, All, IfSome}
use Rattle.omega_text.specs.Limits.{most_text}
use Rattle.omega_game_values.specs.Building.{IsGameOf}
use Rattle.omega_game_values.specs.Game.{Node, IsWithinLimits}
use Rattle.omega_game_values.specs.declared.node_spec.NodeSpec.{NodeSpec}
use Rattle.omega_pg.specs.game.Grammar.{RawGame, game_syntax}
use Rattle.omega_text.specs.Syntax.{IsTextOf}

-- no identifier is above the number of a header, if there is one
abbrev pub Covers : Option ℕ → List NodeSpec → Type 0
Covers header specs = IfSome header (λ number. All (λ spec. spec.id ≤ number) specs)

-- the text describes the game: its specifications, in rising order of identifiers, are the game's nodes
pub record IsGameText (source : List ℕ) (game : List Node) : Type 0 where
  pub short : length source ≤ most_text
  pub raw : RawGame
  pub writes : IsTextOf game_syntax source raw
  pub rearranged : IsGameOf raw.specs game
  pub covers : Covers raw.header raw.specs
  pub limits : IsWithinLimits game
