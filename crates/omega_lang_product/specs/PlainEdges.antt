-- The edges of an automaton as its product with another sees them (HOA v1, semantics). Labels and marks of states are
-- moved to edges, edges without a label get one, propositions are joined by name, and sets are numbered after those of
-- the other.
use Rattle.std.specs.Prelude.{ℕ, ◌+◌, ◌==◌, Bool, true, false, ◌||◌, if◌then◌else◌}
use Rattle.std.specs.Prelude.{List, [], ◌∷◌, ◌++◌, map, slice_index_or}
use Rattle.omega_hoa_label.specs.Label.{LabelTree, propositions, truth}
use Rattle.omega_hoa_automaton.specs.declared.edge.Edge.{Edge}
use Rattle.omega_hoa_automaton.specs.declared.state.State.{State}
use Rattle.omega_hoa_label.specs.Renumbering.{relabelled}
use Rattle.omega_lang_product.specs.declared.plain_edge.PlainEdge.{PlainEdge}
use Rattle.omega_hoa_edges.specs.Labels.{label_at}

-- how a product sees an automaton: its number of propositions, their places among the joined ones, and how many sets
-- are numbered before its own
pub record View : Type 0 where
  pub count : ℕ
  pub places : List ℕ
  pub before : ℕ

-- the edge of a state with an index
abbrev pub plain_edge_of : View → State → ℕ → Edge → PlainEdge
plain_edge_of view state index edge = record {
  label = relabelled view.places (label_at view.count state index edge);
  target = slice_index_or edge.targets 0 0;
  marks = map (λ set. view.before + set) (state.marks ++ edge.marks);
}

-- edges of a state, counted from an index
abbrev pub plain_edges_from : View → State → ℕ → List Edge → List PlainEdge
plain_edges_from view state index [] = []
plain_edges_from view state index (edge ∷ edges) =
    plain_edge_of view state index edge ∷ plain_edges_from view state (index + 1) edges

-- the edges of the first state with a number, empty if there is no such state
abbrev pub plain_edges_at : View → List State → ℕ → List PlainEdge
plain_edges_at view [] number = []
plain_edges_at view (state ∷ states) number =
    if state.number == number then plain_edges_from view state 0 state.edges
    else plain_edges_at view states number

-- the values `held`, but with `value` for the proposition `p`
abbrev pub with_value : ℕ → Bool → (ℕ → Bool) → ℕ → Bool
with_value p value held q = if q == p then value else held q

-- whether a label is true under some values of these propositions
abbrev pub is_true_under_some : List ℕ → (ℕ → Bool) → LabelTree → Bool
is_true_under_some [] held label = truth held label
is_true_under_some (p ∷ ps) held label = is_true_under_some ps (with_value p true held) label
    || is_true_under_some ps (with_value p false held) label

-- whether a label can be true
abbrev pub can_hold : LabelTree → Bool
can_hold label = is_true_under_some (propositions label) (λ p. false) label
