-- Strategies, the walks that they leave possible, and what it is to win.
use Rattle.std.specs.Prelude.{◌≡◌, ℕ, ◌<◌, IsTrue, Option, Some, None, List}
use Rattle.std.specs.Prelude.{[], ◌∷◌, length, max, slice_get, slice_index_or}
use Rattle.omega_game_values.specs.declared.player.Player.{Player}
use Rattle.omega_game_values.specs.Game.{Node, HasEdge, owner_at, priority_at}
use Rattle.omega_game_values.specs.Player.{loses}

-- the choice at a place, or none
abbrev pub choice_at : List (Option ℕ) → ℕ → Option ℕ
choice_at choices v = slice_index_or choices v None

-- the player's choice at a place: none, or a place
abbrev pub Chooses : List (Option ℕ) → ℕ → ℕ → Type 0
Chooses choices v w = slice_get choices v ≡ Some (Some w)

-- a strategy of the player: an entry for each place, where a choice is a listed successor of a
-- node that the player owns
pub record IsStrategy (nodes : List Node) (player : Player) (choices : List (Option ℕ)) : Type 0 where
  pub entries : length choices ≡ length nodes
  pub owned : (v w : ℕ) → Chooses choices v w → owner_at nodes v ≡ player
  pub listed : (v w : ℕ) → Chooses choices v w → HasEdge nodes v w

-- the strategy leaves the edge from v to w possible: it is listed, and if the player has a choice at v, this is w
pub record Leaves (nodes : List Node) (player : Player) (choices : List (Option ℕ))
    (v w : ℕ) : Type 0 where
  pub listed : HasEdge nodes v w
  pub chosen : owner_at nodes v ≡ player → (c : ℕ) → Chooses choices v c → w ≡ c

-- v and the places after it are a walk: neighbours are joined by edges left possible
abbrev pub IsWalk : List Node → Player → List (Option ℕ) → ℕ → List ℕ → Type 0
IsWalk nodes player choices v [] = v < length nodes
IsWalk nodes player choices v (w ∷ ws) =
    Leaves nodes player choices v w × IsWalk nodes player choices w ws

-- the last place of v and the places after it
abbrev pub end_of : ℕ → List ℕ → ℕ
end_of v [] = v
end_of v (w ∷ ws) = end_of w ws

-- the greatest priority of v and the places after it
abbrev pub greatest_on : List Node → ℕ → List ℕ → ℕ
greatest_on nodes v [] = priority_at nodes v
greatest_on nodes v (w ∷ ws) = max (priority_at nodes v) (greatest_on nodes w ws)

-- v and the places after it are a closed walk: at least two entries, and the last is the first
pub record IsClosedWalk (nodes : List Node) (player : Player) (choices : List (Option ℕ)) (v : ℕ)
    (ws : List ℕ) : Type 0 where
  pub walk : IsWalk nodes player choices v ws
  pub longer : 0 < length ws
  pub closed : end_of v ws ≡ v

-- the strategy wins from v: no closed walk whose first node ends a walk from v has a greatest priority that loses
abbrev pub Wins : List Node → Player → List (Option ℕ) → ℕ → Type 0
Wins nodes player choices v =
    (there around : List ℕ)
    → IsWalk nodes player choices v there
    → IsClosedWalk nodes player choices (end_of v there) around
    → ¬ IsTrue (loses player (greatest_on nodes (end_of v there) around))

-- a node from which some strategy of the player wins
pub record InRegion (nodes : List Node) (player : Player) (v : ℕ) : Type 0 where
  pub node : v < length nodes
  pub choices : List (Option ℕ)
  pub strategy : IsStrategy nodes player choices
  pub wins : Wins nodes player choices v
