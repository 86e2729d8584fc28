-- The graph of the product of two automata: its edges between the reachable pairs, without their labels, and the edges
-- of both that each of them takes together.
use Rattle.std.specs.Prelude.{◌≡◌, ℕ, List, length, map}
use Rattle.std.specs.List.{flat_map}
use Rattle.omega_hoa_automaton.specs.Automaton.{Description, edges_before}
use Rattle.omega_hoa_automaton.specs.declared.state.State.{State}
use Rattle.omega_lang_product.specs.Acceptance.{IsJointFormula}
use Rattle.omega_lang_product.specs.JointEdges.{AreJoints, Joint, Numbered, joints_between, numbered_from}
use Rattle.omega_lang_product.specs.Joining.{joined_names}
use Rattle.omega_lang_product.specs.Pairs.{AreReached, Pair, first_view}
use Rattle.omega_lang_product.specs.Pairs.{pair_number, second_view, start_pairs}
use Rattle.omega_lang_product.specs.PlainEdges.{View, plain_edges_at}
use Rattle.omega_lang_product.specs.declared.graph.PairGraph.{PairGraph}

-- the edges of the first state with a number, by their numbers and as a product sees them
abbrev pub numbered_at : View → List State → ℕ → List Numbered
numbered_at view states number =
    numbered_from (edges_before states number) (plain_edges_at view states number)

-- the edges of the first that leave the first state of a pair, and those of the second that leave the second
abbrev pub first_numbered : Description → Description → Pair → List Numbered
first_numbered one other pair = numbered_at (first_view one other) one.defined pair.0

abbrev pub second_numbered : Description → Description → Pair → List Numbered
second_numbered one other pair = numbered_at (second_view one other) other.defined pair.1

-- the edges of the product that leave a pair, in the order of those of the first, and for each in that of the second
abbrev pub joints_at : Description → Description → List Pair → Pair → List Joint
joints_at one other pairs pair = joints_between pairs (pair_number pairs pair)
    (first_numbered one other pair) (second_numbered one other pair)

-- all edges of the product, in the order of the pairs
abbrev pub joints_of : Description → Description → List Pair → List Joint
joints_of one other pairs = flat_map (joints_at one other pairs) pairs

-- a graph is that of the product of two automata
pub record IsPairGraph (one other : Description) (graph : PairGraph) : Type 0 where
  pub pairs : List Pair
  pub reached : AreReached one other pairs
  pub propositions : graph.propositions.items ≡ joined_names one.propositions other.propositions
  pub starts : graph.starts.items ≡ map (pair_number pairs) (start_pairs one other)
  pub edges : AreJoints (joints_of one other pairs) graph.edges
  pub acceptance : IsJointFormula one other graph.acceptance
