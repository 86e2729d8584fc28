-- The words along a lasso of an automaton.
use Rattle.std.specs.Prelude.{ℕ, List, [], length, map, Option, None, Some}
use Rattle.omega_hoa_automaton.specs.Automaton.{BodyEdge, Description, edge_at}
use Rattle.omega_hoa_edges.specs.Conjuncts.{conjuncts, each_once}
use Rattle.omega_hoa_edges.specs.Labels.{label_at}
use Rattle.omega_hoa_label.specs.Label.{LabelTree}
use Rattle.omega_lang_lasso_word.specs.LassoWordText.{words_over}
use Rattle.omega_lang_lasso_word.specs.declared.lasso_word.LassoWord.{LassoWord}
use Rattle.omega_lang_runs.specs.Words.{index_in}

-- the conjuncts of the label of this edge with an index within its state, each once; none without an edge
abbrev pub conjuncts_in : Description → ℕ → Option BodyEdge → List LabelTree
conjuncts_in a index None = []
conjuncts_in a index (Some edge) =
    each_once (conjuncts (label_at (length a.propositions) edge.source index edge.edge))

-- those of the edge with this number
abbrev pub edge_conjuncts : Description → ℕ → List LabelTree
edge_conjuncts a number = conjuncts_in a (index_in a.defined number) (edge_at a number)

-- the words
abbrev pub words_along : Description → (stem cycle : List ℕ) → LassoWord
words_along a stem cycle =
    words_over a.propositions (map (edge_conjuncts a) stem) (map (edge_conjuncts a) cycle)
