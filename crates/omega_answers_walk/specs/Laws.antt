-- Laws of explanations: they are walks, and can be drawn.
use Rattle.std.specs.Prelude.{◌≤◌, List, length}
use Rattle.omega_game.specs.declared.lasso.Lasso.{Lasso}
use Rattle.omega_answers_game.specs.Verify.{LosesGiven, explained_text}
use Rattle.omega_game_values.specs.Game.{IsGame, IsWithinLimits, Node}
use Rattle.omega_game_values.specs.declared.player.Player.{Player}
use Rattle.omega_game_values.specs.declared.solution.Solution.{Solution}
use Rattle.omega_text.specs.Limits.{most_text}
use Rattle.omega_answers_walk.specs.Verify.{named_text}
use Rattle.omega_answers_walk.specs.Walk.{IsWalkOf}

-- a lasso that explains why a player's choices do not win, as it is written without names or with them, is a walk of
-- the game if the text keeps the limit
abbrev pub ExplanationsAreWalks : Type 0
ExplanationsAreWalks = (nodes : List Node) (solution : Solution) (player : Player) (lasso : Lasso)
    → IsGame nodes → IsWithinLimits nodes → LosesGiven nodes solution player lasso
    → (length (explained_text nodes player lasso) ≤ most_text
    → IsWalkOf nodes (explained_text nodes player lasso) lasso)
    × (length (named_text nodes player lasso) ≤ most_text
    → IsWalkOf nodes (named_text nodes player lasso) lasso)
