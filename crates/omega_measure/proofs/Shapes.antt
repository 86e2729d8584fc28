-- What a shape keeps for each place.
use Rattle.std.proofs.Common.{◌≡◌, ℕ, ◌+◌, ◌<◌, List, [], ◌∷◌, ◌++◌, length, get_or, take, sym, ap, ◌∙◌, arith}
use Rattle.std.specs.Prelude.{map}
use Rattle.std.proofs.lemmas.List.{get_or_default, get_or-map, length-map, map-append, take_more}
use Rattle.omega_game_values.specs.Game.{Node, no_node, priorities, priority_at}
use Rattle.omega_game_values.specs.declared.player.Player.{Player}
use Rattle.omega_lift_laws.specs.Measure.{entries_from}
use Rattle.omega_measure.specs.private.layout.Falling.{count_from}
use Rattle.omega_measure.specs.private.layout.Shape.{IsShape}

-- what is kept for a place is how many entries are for priorities at least its own
pub kept_at :
    (player : Player) (priorities losing limits kept : List ℕ) (place r : ℕ) → IsShape player priorities losing limits kept → place < length priorities → r ≡ get_or kept place r
    → r ≡ entries_from player priorities (get_or priorities place 0)
kept_at player priorities losing limits kept place r shape within read =
    let long = ap length shape.kept_from ∙ length-map priorities (λ p. count_from p losing) in
    read ∙ get_or_default kept place r 0 (omega (arith, long))
    ∙ ap (λ xs. get_or xs place 0) shape.kept_from
    ∙ get_or-map (λ p. count_from p losing) priorities place 0 0 within
    ∙ ap (count_from (get_or priorities place 0)) shape.losing_in_use

-- one more place's count
pub count_more :
    (losing priorities kept new : List ℕ) (i p count : ℕ) → i < length priorities → kept ≡ map (λ q. count_from q losing) (take i priorities)
    → p ≡ get_or priorities i 0 → count ≡ count_from p losing → new ≡ kept ++ count ∷ [] → new ≡ map (λ q. count_from q losing) (take (i + 1) priorities)
count_more losing priorities kept new i p count l so_far here is grown =
    grown
    ∙ ap (λ xs. xs ++ count ∷ []) so_far
    ∙ ap (λ n. map (λ q. count_from q losing) (take i priorities) ++ n ∷ []) (is ∙ ap (λ q. count_from q losing) here)
    ∙ sym (map-append (λ q. count_from q losing) (take i priorities) (get_or priorities i 0 ∷ []))
    ∙ ap (map (λ q. count_from q losing)) (sym (take_more priorities i 0 l))

-- one more node's priority
pub priority_more : (nodes : List Node) (i : ℕ) → i < length nodes → take (i + 1) (priorities nodes) ≡ take i (priorities nodes) ++ priority_at nodes i ∷ []
priority_more nodes i l =
    take_more (priorities nodes) i 0 (omega (arith, length-map nodes (λ node. node.priority)))
    ∙ ap (λ p. take i (priorities nodes) ++ p ∷ []) (get_or-map (λ node. node.priority) nodes i no_node 0 l)
