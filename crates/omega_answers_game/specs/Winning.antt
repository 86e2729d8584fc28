-- Winning in games in which the least priority decides.
use Rattle.std.specs.Prelude.{◌<◌, List, [], ◌∷◌, Option, ℕ, IsTrue, length, min}
use Rattle.omega_game_values.specs.declared.player.Player.{Player}
use Rattle.omega_game_values.specs.Game.{Node, priority_at}
use Rattle.omega_game_values.specs.Player.{loses}
use Rattle.omega_game_values.specs.Winning.{IsClosedWalk, IsStrategy, IsWalk, end_of}

-- the least priority of v and the places after it
abbrev pub least_on : List Node → ℕ → List ℕ → ℕ
least_on nodes v [] = priority_at nodes v
least_on nodes v (w ∷ ws) = min (priority_at nodes v) (least_on nodes w ws)

-- the strategy wins from v by the least priority: no closed walk whose first node ends a walk from v has a least
-- priority that loses
abbrev pub WinsByLeast : List Node → Player → List (Option ℕ) → ℕ → Type 0
WinsByLeast nodes player choices v =
    (there around : List ℕ)
    → IsWalk nodes player choices v there
    → IsClosedWalk nodes player choices (end_of v there) around
    → ¬ IsTrue (loses player (least_on nodes (end_of v there) around))

-- a node from which some strategy of the player wins by the least priority
pub record InLeastRegion (nodes : List Node) (player : Player) (v : ℕ) : Type 0 where
  pub node : v < length nodes
  pub choices : List (Option ℕ)
  pub strategy : IsStrategy nodes player choices
  pub wins : WinsByLeast nodes player choices v
