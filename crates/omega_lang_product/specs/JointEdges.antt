-- Edges of a product, each of which takes one edge of either automaton together with one of the other: the pairs that
-- it leads between, its marks, and the numbers of the two.
use Rattle.std.specs.Prelude.{◌≡◌, ℕ, ◌+◌, List, [], ◌∷◌, ◌++◌, map, filter}
use Rattle.std.specs.List.{flat_map}
use Rattle.omega_graph.specs.Graph.{edge_of}
use Rattle.omega_lang_product.specs.Pairs.{Pair, can_meet, pair_number}
use Rattle.omega_lang_product.specs.declared.joint_edges.JointEdges.{JointEdges}
use Rattle.omega_lang_product.specs.declared.plain_edge.PlainEdge.{PlainEdge}

-- an edge of an automaton, by its number there and as a product sees it
pub record Numbered : Type 0 where
  pub number : ℕ
  pub plain_edge : PlainEdge

-- edges whose numbers follow each other from `first` on
abbrev pub numbered_from : ℕ → List PlainEdge → List Numbered
numbered_from first [] = []
numbered_from first (plain_edge ∷ plain_edges) =
    record { number = first; plain_edge = plain_edge } ∷ numbered_from (first + 1) plain_edges

-- the edges of the second that can be taken together with an edge of the first
abbrev pub numbered_partners : Numbered → List Numbered → List Numbered
numbered_partners first seconds =
    filter (λ second. can_meet first.plain_edge second.plain_edge) seconds

-- an edge of the product: the numbers of the pairs that it leads between, and the two edges that it takes together
pub record Joint : Type 0 where
  pub from : ℕ
  pub to : ℕ
  pub first : Numbered
  pub second : Numbered

-- two edges taken together, from the pair with a number
abbrev pub joint_of : List Pair → ℕ → Numbered → Numbered → Joint
joint_of pairs from first second = record {
  from = from;
  to = pair_number pairs (first.plain_edge.target, second.plain_edge.target);
  first = first;
  second = second;
}

-- an edge of the first taken together with those of a list
abbrev pub joints_with : List Pair → ℕ → Numbered → List Numbered → List Joint
joints_with pairs from first seconds =
    map (joint_of pairs from first) (numbered_partners first seconds)

-- the edges of one list taken together with those of the other, in the order of the one, and for each in that of the
-- other
abbrev pub joints_between : List Pair → ℕ → List Numbered → List Numbered → List Joint
joints_between pairs from firsts seconds =
    flat_map (λ first. joints_with pairs from first seconds) firsts

-- the marks of both edges
abbrev pub marks_of_both : Joint → List ℕ
marks_of_both joint = joint.first.plain_edge.marks ++ joint.second.plain_edge.marks

-- the columns of a table have these edges, one in each row
pub record AreJoints (joints : List Joint) (edges : JointEdges) : Type 0 where
  pub ends : edges.ends.items ≡ map (λ joint. edge_of joint.from joint.to) joints
  pub marks : edges.marks.items ≡ map marks_of_both joints
  pub firsts : edges.firsts.items ≡ map (λ joint. joint.first.number) joints
  pub seconds : edges.seconds.items ≡ map (λ joint. joint.second.number) joints
