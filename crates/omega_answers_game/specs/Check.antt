-- The answer of `check` for a game text.
use Rattle.std.specs.Prelude.{◌≡◌, List, ℕ, codes}
use Rattle.omega_game_values.specs.Game.{Node}
use Rattle.omega_pg.specs.game.Text.{IsGameText}

-- the answer of `check`: the text is that of a game, and `accepted` is written
pub record IsCheckAnswer (text output : List ℕ) : Type 0 where
  pub game : List Node
  pub read : IsGameText text game
  pub written : output ≡ codes "accepted\n"
