-- Nodes of a game that is built of specifications: each specification has one place, and its identifier tells which.
use Rattle.std.proofs.Common.{◌≡◌, ℕ, ◌<◌, List, length, map, Contains, sym, ap, ◌∙◌, subst, arith}
use Rattle.std.proofs.lemmas.List.{get_or-map, length-map}
use Rattle.std.proofs.lemmas.List.Sorted.{Contains-permutation}
use Rattle.omega_game_values.proofs.elements.Membership.{Contains-under}
use Rattle.omega_game_values.specs.Building.{IsGameOf, specified}
use Rattle.omega_game_values.specs.Game.{HasEdge, Node, identifier_at, no_node, node_at, successors_at}
use Rattle.omega_game_values.specs.declared.node_spec.NodeSpec.{NodeSpec}
use Rattle.omega_empty.proofs.playing.Places.{same_place}

-- the node at a place is as it is specified
pub record IsAt (nodes : List Node) (spec : NodeSpec) (v : ℕ) : Type 0 where
  pub node : v < length nodes
  pub is : specified nodes (node_at nodes v) ≡ spec

module _ (specs : List NodeSpec) (nodes : List Node) (made : IsGameOf specs nodes) where
  -- each specification has a place
  pub place : (spec : NodeSpec) → Contains specs spec → (v : ℕ) × IsAt nodes spec v
  place spec within =
      let found = Contains-permutation specs (map (specified nodes) nodes) spec made.rearranged within in
      let below : found.0 < length nodes = omega (arith, found.1, length-map nodes (specified nodes)) in
      (found.0, record { node = below; is = sym (get_or-map (specified nodes) nodes found.0 no_node spec below) ∙ found.2 })

  -- the place that has its identifier
  pub known : (spec : NodeSpec) (v : ℕ) → Contains specs spec → v < length nodes → identifier_at nodes v ≡ spec.id → IsAt nodes spec v
  known spec v within below same =
      let found = place spec within in
      let there : identifier_at nodes found.0 ≡ spec.id = ap (λ (s : NodeSpec). s.id) found.1.is in
      let one : found.0 ≡ v = same_place nodes found.0 v made.game.rising found.1.node below (there ∙ sym same) in
      subst (λ u. IsAt nodes spec u) one found.1

  -- what its node leads to is listed as a successor
  pub listed : (spec : NodeSpec) (v w : ℕ) → IsAt nodes spec v → HasEdge nodes v w → Contains spec.successors (identifier_at nodes w)
  listed spec v w at edge =
      let list : map (identifier_at nodes) (successors_at nodes v) ≡ spec.successors = ap (λ (s : NodeSpec). s.successors) at.is in
      subst (λ l. Contains l (identifier_at nodes w)) list (Contains-under (identifier_at nodes) (successors_at nodes v) w edge)
