-- Specifications have at most one game: by rising identifier they are one list, and it fixes each node.
use Rattle.std.proofs.Common.{◌≡◌, ℕ, zero, suc, List, [], ◌∷◌, length, map, get_or, slice_index, refl, sym, ap, ◌∙◌, subst, arith, IsPermutation}
use Rattle.std.proofs.lemmas.List.{get_or-map, length-map, ext_get_or}
use Rattle.std.proofs.lemmas.List.Sorted.{Contains-permutation, IsPermutation-sym, IsPermutation-trans}
use Rattle.std.specs.List.Sorted.{IsStrictlyIncreasing}
use Rattle.omega_game_values.specs.declared.node_spec.NodeSpec.{NodeSpec}
use Rattle.omega_game_values.specs.Game.{Node, IsGame, node_at, no_node, identifiers, successors_at}
use Rattle.omega_game_values.specs.Building.{IsGameOf, specified}
use Rattle.omega_game_values.proofs.building.Keyed.{Rises, rises_from_keys, same_elements}
use Rattle.omega_game_values.proofs.elements.Membership.{map-map, same_map, same_place}

-- the specifications of a game rise
pub specified_rise : (nodes : List Node) → IsGame nodes → Rises (λ spec. spec.id) (map (specified nodes) nodes)
specified_rise nodes game =
    rises_from_keys (λ spec. spec.id) (map (specified nodes) nodes)
    (subst IsStrictlyIncreasing (sym (map-map (λ spec. spec.id) (specified nodes) nodes)) game.rising)

-- the identifier of the node at a place
pub identifier_at : (nodes : List Node) (v : ℕ) → (node_at nodes v).identifier ≡ slice_index (identifiers nodes) v
identifier_at [] v = refl
identifier_at (node ∷ nodes) zero = refl
identifier_at (node ∷ nodes) (suc v) = identifier_at nodes v

-- nodes of equal parts are equal
same_node : (a b : Node) → a.identifier ≡ b.identifier → a.priority ≡ b.priority → a.owner ≡ b.owner → a.successors ≡ b.successors → a.name ≡ b.name → a ≡ b
same_node a b identifier priority owner successors name =
    λ i. record { identifier = identifier i; priority = priority i; owner = owner i; successors = successors i; name = name i }

-- games with the same identifiers agree at the places where their specifications do
same_at : (one other : List Node) (v : ℕ) → IsGame one → IsGame other → identifiers one ≡ identifiers other
    → specified one (node_at one v) ≡ specified other (node_at other v) → node_at one v ≡ node_at other v
same_at one other v first second ids same =
    same_node (node_at one v) (node_at other v)
    (ap (λ spec. spec.id) same) (ap (λ spec. spec.priority) same) (ap (λ spec. spec.owner) same)
    (same_map (λ w. (node_at one w).identifier) (λ w. (node_at other w).identifier) (successors_at one v) (successors_at other v)
    (λ x y x_edge y_edge e.
    same_place (identifiers one) x y first.rising
    (omega (arith, first.closed v x x_edge, length-map one (λ node. node.identifier)))
    (omega (arith, second.closed v y y_edge, length-map other (λ node. node.identifier), ap length ids))
    (sym (identifier_at one x) ∙ e ∙ identifier_at other y ∙ ap (λ all. slice_index all y) (sym ids)))
    (ap (λ spec. spec.successors) same))
    (ap (λ spec. spec.name) same)

-- specifications have at most one game
pub determined : (specs : List NodeSpec) (one other : List Node) → IsGameOf specs one → IsGameOf specs other → one ≡ other
determined specs one other first second =
    let onward : IsPermutation (map (specified one) one) (map (specified other) other) =
    IsPermutation-trans _ specs _ (IsPermutation-sym specs _ first.rearranged) second.rearranged in
    let same : map (specified one) one ≡ map (specified other) other =
    same_elements (λ spec. spec.id) _ _ (specified_rise one first.game) (specified_rise other second.game)
    (λ z. Contains-permutation _ _ z onward) (λ z. Contains-permutation _ _ z (IsPermutation-sym _ _ onward)) in
    let ids : identifiers one ≡ identifiers other =
    sym (map-map (λ spec. spec.id) (specified one) one) ∙ ap (map (λ spec. spec.id)) same ∙ map-map (λ spec. spec.id) (specified other) other in
    let lengths : length one ≡ length other = omega (arith, length-map one (specified one), length-map other (specified other), ap length same) in
    ext_get_or no_node one other lengths
    (λ v below.
    same_at one other v first.game second.game ids
    (sym (get_or-map (specified one) one v no_node (specified one no_node) below)
    ∙ ap (λ all. get_or all v (specified one no_node)) same
    ∙ get_or-map (specified other) other v no_node (specified one no_node) (omega arith)))
