-- The answer of `canon` for a game text, whole or from a node on.
use Rattle.std.specs.Prelude.{◌≡◌, List, ℕ}
use Rattle.omega_game_values.specs.Game.{Node}
use Rattle.omega_pg.specs.game.Canonical.{canonical_game}
use Rattle.omega_pg.specs.game.Text.{IsGameText}
use Rattle.omega_answers_game.specs.Part.{IsPartText}

-- the answer of `canon`: the text is that of a game, and the canonical text of the game is written
pub record IsCanonAnswer (text output : List ℕ) : Type 0 where
  pub game : List Node
  pub read : IsGameText text game
  pub written : output ≡ canonical_game game

-- the answer of `canon --from`: the canonical text of the part that the node with the identifier reaches is written
pub record IsCanonPartAnswer (text : List ℕ) (identifier : ℕ) (output : List ℕ) : Type 0 where
  pub part : List Node
  pub read : IsPartText text identifier part
  pub written : output ≡ canonical_game part
