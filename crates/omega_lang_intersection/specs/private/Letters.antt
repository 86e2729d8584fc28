-- The words along a lasso of a product, of which only the graph is made.
use Rattle.std.specs.Prelude.{◌≡◌, ℕ, false, List, ◌++◌, length, map, get_or, Option, None, Some}
use Rattle.omega_hoa_automaton.specs.Automaton.{BodyEdge, Description, edge_at}
use Rattle.omega_hoa_edges.specs.Labels.{label_at}
use Rattle.omega_hoa_edges.specs.Conjuncts.{conjuncts, each_once}
use Rattle.omega_hoa_label.specs.Label.{LabelTree, constant}
use Rattle.omega_hoa_label.specs.Renumbering.{relabelled}
use Rattle.omega_lang_lasso_word.specs.LassoWordText.{words_over}
use Rattle.omega_lang_lasso_word.specs.declared.lasso_word.LassoWord.{LassoWord}
use Rattle.omega_lang_product.specs.Joining.{places_among}
use Rattle.omega_lang_product.specs.declared.graph.PairGraph.{PairGraph}
use Rattle.omega_lang_runs.specs.Places.{ArePlaces}
use Rattle.omega_lang_runs.specs.Words.{index_in}
use Rattle.omega_lang_intersection.specs.declared.joints.Joints.{Joints}

-- what finds labels is that of the automata
pub record FindsLabels (joints : Joints) : Type 0 where
  pub places : ArePlaces joints.one.now joints.places.now
  pub other_places : ArePlaces joints.other.now joints.other_places.now
  pub numbers : joints.numbers.now
      ≡ places_among joints.graph.now.propositions.items joints.one.now.propositions
  pub other_numbers : joints.other_numbers.now
      ≡ places_among joints.graph.now.propositions.items joints.other.now.propositions

-- the label of an edge, over the propositions that these numbers are of; `f` without an edge
abbrev pub moved_label : List ℕ → ℕ → Option BodyEdge → LabelTree
moved_label numbers index None = constant false
moved_label numbers index (Some edge) =
    relabelled numbers (label_at (length numbers) edge.source index edge.edge)

-- the label of the edge with this number
abbrev pub label_in : List ℕ → Description → ℕ → LabelTree
label_in numbers a number = moved_label numbers (index_in a.defined number) (edge_at a number)

-- the conjuncts of an edge of the product of two automata with a graph: those of the labels of the two edges that it
-- takes together, each once
abbrev pub joint_conjuncts : Description → Description → PairGraph → ℕ → List LabelTree
joint_conjuncts one other graph number =
    let names = graph.propositions.items in each_once (conjuncts
    (label_in (places_among names one.propositions) one (get_or graph.edges.firsts.items number 0))
    ++ conjuncts (label_in (places_among names other.propositions) other
    (get_or graph.edges.seconds.items number 0)))

-- the words of a lasso
abbrev pub joint_word : Description → Description → PairGraph → List ℕ → List ℕ → LassoWord
joint_word one other graph stem cycle = words_over graph.propositions.items
    (map (joint_conjuncts one other graph) stem) (map (joint_conjuncts one other graph) cycle)
