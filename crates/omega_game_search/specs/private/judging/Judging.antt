-- The winners and choices that are judged, as lists by place.
use Rattle.std.specs.Prelude.{◌≡◌, ◌↔◌, ℕ, ◌<◌, Option, List, length, IsSome, slice_index_or}
use Rattle.omega_game_values.specs.declared.player.Player.{Player}
use Rattle.omega_game_values.specs.declared.player.Player.TheVariants.{One, Zero}
use Rattle.omega_game_values.specs.declared.solution.Solution.{Solution}
use Rattle.omega_game_values.specs.Game.{Node, owner_at}
use Rattle.omega_game_values.specs.Solution.{WinsAsGiven}
use Rattle.omega_game_values.specs.Winning.{IsStrategy, choice_at}

-- there is an entry for each node, and a choice exactly if the player is the owner and the winner
pub record ChoosesWhereWon (nodes : List Node) (player : Player) (winners : List Player)
    (choices : List (Option ℕ)) : Type 0 where
  pub entries : length choices ≡ length nodes
  pub chosen : (v : ℕ) → v < length nodes → IsSome (choice_at choices v)
      ↔ ((owner_at nodes v ≡ player) × (slice_index_or winners v Zero ≡ player))

-- each player's choices are a strategy that wins from all nodes given to the player
pub record IsAccepted (nodes : List Node) (solution : Solution) : Type 0 where
  pub zero : IsStrategy nodes Zero solution.zero.choice
  pub one : IsStrategy nodes One solution.one.choice
  pub wins : WinsAsGiven nodes solution
