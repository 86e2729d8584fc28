-- Lists of edges of a game, and what they lead to, whatever is chosen.
use Rattle.std.specs.Prelude.{◌≡◌, ℕ, ◌<◌, List, [], ◌∷◌, length}
use Rattle.omega_game_values.specs.Game.{Node, HasEdge}
use Rattle.omega_game_values.specs.Winning.{end_of}

-- v and the places after it are joined by listed edges
abbrev pub IsPath : List Node → ℕ → List ℕ → Type 0
IsPath nodes v [] = v < length nodes
IsPath nodes v (w ∷ ws) = HasEdge nodes v w × IsPath nodes w ws

-- a list of listed edges leads from v to w
pub record Reaches (nodes : List Node) (v w : ℕ) : Type 0 where
  pub path : List ℕ
  pub joined : IsPath nodes v path
  pub ends : end_of v path ≡ w
