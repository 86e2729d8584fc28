-- The part of a place: which nodes it keeps, and their edges.
use Rattle.std.proofs.Common.{◌≡◌, ℕ, ◌<◌, List, [], ◌∷◌, ◌++◌, length, map, Contains, slice_index, refl, sym, ap, ◌∙◌, subst}
use Rattle.std.proofs.lemmas.List.{get_or-map, length-map}
use Rattle.std.proofs.lemmas.List.Elements.{Contains-get_or}
use Rattle.omega_game_values.specs.Game.{Node, IsGame, HasEdge, node_at, no_node, owner_at, priority_at, successors_at}
use Rattle.omega_game_values.specs.Winning.{end_of}
use Rattle.omega_game_values.specs.Places.{new_place}
use Rattle.omega_game_values.specs.Paths.{IsPath, Reaches}
use Rattle.omega_game_reaching.specs.Part.{IsPartAt, KeepsNodes}
use Rattle.omega_game_values.proofs.elements.Membership.{Contains-under, map-Contains, place_of_contained, same_place}

-- a path goes on along an edge
path_onward : (nodes : List Node) (v w : ℕ) (us : List ℕ) → IsGame nodes → IsPath nodes v us → HasEdge nodes (end_of v us) w → IsPath nodes v (us ++ w ∷ [])
path_onward nodes v w [] game path edge = (edge, game.closed v w edge)
path_onward nodes v w (u ∷ us) game path edge = (path.0, path_onward nodes u w us game path.1 edge)

-- and ends where the edge leads
end_onward : (v w : ℕ) (us : List ℕ) → end_of v (us ++ w ∷ []) ≡ w
end_onward v w [] = refl
end_onward v w (u ∷ us) = end_onward u w us

-- a path stays in the game
end_of_path : (nodes : List Node) (v : ℕ) (us : List ℕ) → IsPath nodes v us → end_of v us < length nodes
end_of_path nodes v [] path = path
end_of_path nodes v (u ∷ us) path = end_of_path nodes u us path.1

-- what an edge leads to from a reached node is reached
pub reaches_onward : (nodes : List Node) (v u w : ℕ) → IsGame nodes → Reaches nodes v u → HasEdge nodes u w → Reaches nodes v w
reaches_onward nodes v u w game reaches edge = record {
  path = reaches.path ++ w ∷ [];
  joined = path_onward nodes v w reaches.path game reaches.joined (subst (λ x. HasEdge nodes x w) (sym reaches.ends) edge);
  ends = end_onward v w reaches.path;
}

-- what is reached is a node
pub reached_is_node : (nodes : List Node) (v u : ℕ) → Reaches nodes v u → u < length nodes
reached_is_node nodes v u reaches = subst (λ x. x < length nodes) reaches.ends (end_of_path nodes v reaches.path reaches.joined)

module _ (nodes part : List Node) (v : ℕ) (kept : List ℕ) (game : IsGame nodes) (is_part : IsPartAt nodes v kept part) where
  -- a kept node under its new place
  abbrev pub moved_node : ℕ → Node
  moved_node u = record (node_at nodes u) { successors = map (new_place kept) (successors_at nodes u) }

  -- a part has a node for each kept place
  pub length_part : length part ≡ length kept
  length_part = ap length is_part.kept_nodes ∙ length-map kept moved_node

  -- the node at a place of the part is the kept one under its new place
  pub node_at_part : (k : ℕ) → k < length kept → node_at part k ≡ moved_node (slice_index kept k)
  node_at_part k below = ap (λ all. node_at all k) is_part.kept_nodes ∙ get_or-map moved_node kept k 0 no_node below

  -- its owner, priority and successors
  owner_in_part : (k : ℕ) → k < length kept → owner_at part k ≡ owner_at nodes (slice_index kept k)
  owner_in_part k below = ap (λ node. node.owner) (node_at_part k below)

  -- its priority
  priority_in_part : (k : ℕ) → k < length kept → priority_at part k ≡ priority_at nodes (slice_index kept k)
  priority_in_part k below = ap (λ node. node.priority) (node_at_part k below)

  -- its successors
  pub successors_in_part : (k : ℕ) → k < length kept → successors_at part k ≡ map (new_place kept) (successors_at nodes (slice_index kept k))
  successors_in_part k below = ap (λ node. node.successors) (node_at_part k below)

  -- an edge from a kept node leads to one
  pub kept_onward : (u w : ℕ) → Contains kept u → HasEdge nodes u w → Contains kept w
  kept_onward u w contained edge = (is_part.reached w).1 (reaches_onward nodes v u w game ((is_part.reached u).0 contained) edge)

  -- kept nodes are nodes of the game
  pub kept_is_node : (u : ℕ) → Contains kept u → u < length nodes
  kept_is_node u contained = reached_is_node nodes v u ((is_part.reached u).0 contained)

  -- what stands at a place is kept
  pub contained_at : (k : ℕ) → k < length kept → Contains kept (slice_index kept k)
  contained_at k below = Contains-get_or kept k 0 below

  -- the new place of the node at a place is that place
  new_of_old : (k : ℕ) → k < length kept → new_place kept (slice_index kept k) ≡ k
  new_of_old k below =
      let place = place_of_contained kept (slice_index kept k) (contained_at k below) in
      same_place kept _ k is_part.rising place.below below place.holds

  -- an edge of the part is one between the nodes that stand there
  pub record IsEdgeUnder (k j : ℕ) : Type 0 where
    pub below : j < length kept
    pub edge : HasEdge nodes (slice_index kept k) (slice_index kept j)

  -- such is each edge of the part
  pub edge_under : (k j : ℕ) → k < length kept → HasEdge part k j → IsEdgeUnder k j
  edge_under k j below edge =
      let from = map-Contains (new_place kept) (successors_at nodes (slice_index kept k)) j
      (subst (λ all. Contains all j) (successors_in_part k below) edge) in
      let w = from.0 in
      let place = place_of_contained kept w (kept_onward (slice_index kept k) w (contained_at k below) from.1) in
      let is : j ≡ new_place kept w = from.2 in
      record {
        below = rw is place.below;
        edge = rw is (rw place.holds from.1);
      }

  -- and an edge of the game between kept nodes is one of the part
  edge_over : (k w : ℕ) → k < length kept → HasEdge nodes (slice_index kept k) w → HasEdge part k (new_place kept w)
  edge_over k w below edge =
      subst (λ all. Contains all (new_place kept w)) (sym (successors_in_part k below)) (Contains-under (new_place kept) _ w edge)

  -- so the part keeps its nodes
  pub keeps_nodes : KeepsNodes nodes kept part
  keeps_nodes = record {
    count = length_part;
    inside = kept_is_node;
    onward = kept_onward;
    stands = λ u contained. place_of_contained kept u contained;
    back = new_of_old;
    owner = owner_in_part;
    priority = priority_in_part;
    edge = edge_over;
    target = λ k j below edge. (edge_under k j below edge).below;
    edge_back = λ k j below edge. (edge_under k j below edge).edge;
  }
