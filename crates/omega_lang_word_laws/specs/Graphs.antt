-- Laws of the graphs of products: each is that of a product, which so there is even where it is not made.
use Rattle.std.specs.Prelude.{◌≡◌, List, [], Contains, None, true}
use Rattle.std.specs.List.{AllZip}
use Rattle.omega_hoa_automaton.specs.Automaton.{BodyEdge, Description, edges_of}
use Rattle.omega_lang_product.specs.JointEdges.{Joint, joint_of}
use Rattle.omega_lang_product.specs.PairGraph.{IsPairGraph, first_numbered, joints_of, second_numbered}
use Rattle.omega_lang_product.specs.Pairs.{Pair, can_meet, pair_number}
use Rattle.omega_lang_product.specs.Product.{IsJointEdge, IsProduct, taken_together}
use Rattle.omega_lang_product.specs.declared.graph.PairGraph.{PairGraph}

-- an edge of a product takes two edges together, which leave the states of one of the pairs
pub record TakesTogether (one other : Description) (pairs : List Pair) (joint : Joint)
    (edge : BodyEdge) : Type 0 where
  pub pair : Pair
  pub within : Contains pairs pair
  pub first_in : Contains (first_numbered one other pair) joint.first
  pub second_in : Contains (second_numbered one other pair) joint.second
  pub meets : can_meet joint.first.plain_edge joint.second.plain_edge ≡ true
  pub is : joint ≡ joint_of pairs (pair_number pairs pair) joint.first joint.second
  pub number : edge.source.number ≡ pair_number pairs pair
  pub no_label : edge.source.label ≡ None
  pub no_marks : edge.source.marks ≡ []
  pub edge_is : IsJointEdge
      (taken_together pairs joint.first.plain_edge joint.second.plain_edge) edge.edge

-- an automaton is the product of two, and a graph is its graph: each row is an edge of it, which takes together the two
-- edges of the row
pub record IsGraphOf (one other : Description) (graph : PairGraph)
    (is : IsPairGraph one other graph) (a : Description) : Type 0 where
  pub product : IsProduct one other a
  pub pairs_are : product.pairs ≡ is.pairs
  pub formula_is : a.acceptance ≡ graph.acceptance
  pub edges : AllZip (TakesTogether one other is.pairs) (joints_of one other is.pairs) (edges_of a)

-- each graph of a product is that of one
abbrev pub GraphsAreOfProducts : Type 0
GraphsAreOfProducts =
    (one other : Description) (graph : PairGraph) (is : IsPairGraph one other graph)
    → (a : Description) × IsGraphOf one other graph is a
