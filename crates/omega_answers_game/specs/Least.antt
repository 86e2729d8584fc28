-- The answer of `canon --min` for a game text, whole or from a node on.
use Rattle.std.specs.Prelude.{◌≡◌, List, Option, ℕ}
use Rattle.omega_game_values.specs.Game.{Node}
use Rattle.omega_pg.specs.game.Canonical.{canonical_game}
use Rattle.omega_answers_game.specs.Turning.{turned_game}
use Rattle.omega_answers_game.specs.Verify.{IsJudgedGame}

-- the answer of `canon --min`: the canonical text of the game to be judged is written, with its priorities turned
pub record IsCanonLeastAnswer (text : List ℕ) (from : Option ℕ) (output : List ℕ) : Type 0 where
  pub game : List Node
  pub judged : IsJudgedGame text from game
  pub written : output ≡ canonical_game (turned_game game)
