-- How many edges the states of a product have.
use Rattle.std.proofs.Common.{◌≡◌, ℕ, ◌+◌, ◌≤◌, List, [], ◌∷◌, length, map, refl, sym, ap, ap₂, ◌∙◌, arith}
use Rattle.std.specs.Prelude.{sum_by}
use Rattle.std.proofs.lemmas.List.{length-append, length-map}
use Rattle.std.proofs.lemmas.List.Sums.{sum_by-cons}
use Rattle.omega_hoa_automaton.specs.Automaton.{Description}
use Rattle.omega_hoa_syntax.specs.declared.raw_state.RawState.{RawState}
use Rattle.omega_hoa_edges.specs.Limits.{most_edges}
use Rattle.omega_lang_product.specs.Pairs.{Pair, first_leaving, partners, second_leaving, targets_between, targets_of}
use Rattle.omega_lang_product.specs.Product.{joint_plain_edges, taken_together}
use Rattle.omega_lang_product.specs.declared.plain_edge.PlainEdge.{PlainEdge}
use Rattle.omega_lang_product.specs.Written.{raw_edge, raw_state_of}
use Rattle.omega_graph.specs.Graph.{edge_of}
use Rattle.omega_lang_product.specs.JointEdges.{AreJoints, Joint}
use Rattle.omega_lang_product.specs.PairGraph.{joints_of}
use Rattle.omega_lang_product.specs.declared.joint_edges.JointEdges.{JointEdges}
use Rattle.omega_lang_product.proofs.Crossing as crossing

-- the edges of a pair of states are as many as the pairs that it leads to
as_many : (pairs : List Pair) (ts us : List PlainEdge) → length (joint_plain_edges pairs ts us) ≡ length (targets_between ts us)
as_many pairs [] us = refl
as_many pairs (t ∷ ts) us =
    length-append (map (taken_together pairs t) (partners t us)) (joint_plain_edges pairs ts us)
    ∙ ap₂ ◌+◌ (length-map (partners t us) (taken_together pairs t) ∙ sym (length-map (partners t us) (λ other. (t.target, other.target)))) (as_many pairs ts us)
    ∙ sym (length-append (map (λ other. (t.target, other.target)) (partners t us)) (targets_between ts us))

module _ (one other : Description) (pairs : List Pair) where
  -- how many edges leave a pair
  abbrev leaving : Pair → ℕ
  leaving pair = length (targets_of one other pair)

  pub state_edges : (pair : Pair) → length (raw_state_of one other pairs pair).edges ≡ length (targets_of one other pair)
  state_edges pair =
      length-map (joint_plain_edges pairs (first_leaving one other pair) (second_leaving one other pair)) raw_edge
      ∙ as_many pairs (first_leaving one other pair) (second_leaving one other pair)

  pub all_edges : (ps : List Pair) → sum_by (λ (state : RawState). length state.edges) (map (raw_state_of one other pairs) ps) ≡ sum_by (λ pair. length (targets_of one other pair)) ps
  all_edges [] = refl
  all_edges (p ∷ ps) =
      sum_by-cons (λ (state : RawState). length state.edges) (raw_state_of one other pairs p) (map (raw_state_of one other pairs) ps)
      ∙ ap₂ ◌+◌ (state_edges p) (all_edges ps) ∙ sym (sum_by-cons (λ pair. length (targets_of one other pair)) p ps)

  -- and all together no more than there are joint edges
  pub states_light : (edges : JointEdges) → AreJoints (joints_of one other pairs) edges → length edges.ends.items ≤ most_edges → (states : List RawState)
      → states ≡ map (raw_state_of one other pairs) pairs → sum_by (λ (state : RawState). length state.edges) states ≤ most_edges
  states_light edges are light states are_states =
      let joints : List Joint = joints_of one other pairs in
      let many : length edges.ends.items ≡ length joints = ap length are.ends ∙ length-map joints (λ (j : Joint). edge_of j.from j.to) in
      let same : sum_by (λ (state : RawState). length state.edges) states ≡ sum_by (λ pair. length (targets_of one other pair)) pairs =
      ap (sum_by (λ (state : RawState). length state.edges)) are_states ∙ all_edges pairs in
      omega (arith, same, many, light, crossing.all_edges one other pairs pairs)
