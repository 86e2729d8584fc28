-- Places of a game.
use Rattle.std.proofs.Common.{◌≡◌, ℕ, ◌<◌, List, length, get_or, sym, subst}
use Rattle.std.proofs.lemmas.List.Elements.{Contains-get_or}
use Rattle.omega_game_values.specs.Game.{IsGame, Node, successors_at}

-- each listed successor of a node is a place
pub successor_is_place : (nodes : List Node) (v : ℕ) (listed : List ℕ) (i d : ℕ) → IsGame nodes → listed ≡ successors_at nodes v → i < length listed
    → get_or listed i d < length nodes
successor_is_place nodes v listed i d game is within =
    let P : List ℕ → Type 0 = λ list. (i < length list) → get_or list i d < length nodes in
    subst P (sym is) (λ inside. game.closed v (get_or (successors_at nodes v) i d) (Contains-get_or (successors_at nodes v) i d inside)) within
