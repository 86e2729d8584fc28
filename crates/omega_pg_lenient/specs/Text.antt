-- The game that a lenient text describes.
use Rattle.std.specs.Prelude.{ℕ, ◌≤◌, List, length}
use Rattle.omega_text.specs.Limits.{most_text}
use Rattle.omega_text.specs.Syntax.{IsTextOf}
use Rattle.omega_game_values.specs.Building.{IsGameOf}
use Rattle.omega_game_values.specs.Game.{Node, IsWithinLimits}
use Rattle.omega_game_values.specs.declared.node_spec.NodeSpec.{NodeSpec}
use Rattle.omega_pg_lenient.specs.Grammar.{lenient_syntax}
use Rattle.omega_pg_lenient.specs.Plain.{plain_text}

-- the text describes the game: the specifications that its plain text spells, in rising order of identifiers, are the
-- game's nodes
pub record IsLenientGameText (source : List ℕ) (game : List Node) : Type 0 where
  pub short : length source ≤ most_text
  pub specs : List NodeSpec
  pub spells : IsTextOf lenient_syntax (plain_text source) specs
  pub rearranged : IsGameOf specs game
  pub limits : IsWithinLimits game
