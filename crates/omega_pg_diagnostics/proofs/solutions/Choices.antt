-- The places that a choice may be.
use Rattle.std.proofs.Common.{ℕ, ◌<◌, List, length, All}
use Rattle.std.specs.Prelude.{Contains}
use Rattle.std.proofs.lemmas.List.Elements.{All-contains_itself, All-weaker}
use Rattle.omega_game_values.specs.Game.{IsGame, Node, successors_at}

-- the successors of a node are places
pub successors_are_places : (nodes : List Node) (v : ℕ) → IsGame nodes → All (λ w. w < length nodes) (successors_at nodes v)
successors_are_places nodes v game =
    All-weaker (Contains (successors_at nodes v)) (λ w. w < length nodes) (λ w listed. game.closed v w listed) (successors_at nodes v) (All-contains_itself (successors_at nodes v))
