-- Why a strategy does not win: a walk to a cycle on which the player loses.
use Rattle.std.specs.Prelude.{◌≡◌, ℕ, IsTrue, Option, List, [], ◌∷◌, ◌++◌, Contains}
use Rattle.omega_game_values.specs.declared.player.Player.{Player}
use Rattle.omega_game_values.specs.Game.{Node}
use Rattle.omega_game_values.specs.Player.{loses}
use Rattle.omega_game_values.specs.Winning.{IsWalk, IsClosedWalk, greatest_on}
use Rattle.omega_game.specs.declared.lasso.Lasso.{Lasso}

-- the lasso shows that the strategy does not win from one of the places. From there its stem is a walk to the first
-- place of its cycle. Round the cycle a closed walk leads from this place, and its greatest priority loses
pub record IsCounterexample (nodes : List Node) (player : Player) (choices : List (Option ℕ))
    (places : List ℕ) (lasso : Lasso) : Type 0 where
  pub start : ℕ
  pub listed : Contains places start
  pub there : List ℕ
  pub walk : IsWalk nodes player choices start there
  pub first : ℕ
  pub stem : lasso.stem ++ first ∷ [] ≡ start ∷ there
  pub onward : List ℕ
  pub cycle : lasso.cycle ≡ first ∷ onward
  pub closed : IsClosedWalk nodes player choices first (onward ++ first ∷ [])
  pub lost : IsTrue (loses player (greatest_on nodes first (onward ++ first ∷ [])))
