-- The labels of edges (HOA v1, semantics of labels and implicit labels). An edge that is written without one has that
-- of its state or of its valuation.
use Rattle.std.specs.Prelude.{ℕ, zero, suc, Bool, true, ◌/◌, ◌%◌, ◌^◌}
use Rattle.std.specs.Prelude.{◌==◌, ◌&&◌, if◌then◌else◌, is_none, length}
use Rattle.std.specs.List.{list_all}
use Rattle.std.specs.Option.{option_or, unwrap_or}
use Rattle.omega_hoa_label.specs.Label.{LabelTree, conjunction, constant, negation, proposition}
use Rattle.omega_hoa_automaton.specs.declared.edge.Edge.{Edge}
use Rattle.omega_hoa_automaton.specs.declared.state.State.{State}

-- the proposition `p` if it holds in the valuation of an index, else its negation
abbrev pub literal : ℕ → ℕ → LabelTree
literal index p = if (index / 2 ^ p) % 2 == 1 then proposition p else negation (proposition p)

-- the label of the valuation of an index, over `count` propositions
abbrev pub valuation_label : ℕ → ℕ → LabelTree
valuation_label index zero = constant true
valuation_label index (suc zero) = literal index 0
valuation_label index (suc (suc p)) =
    conjunction (valuation_label index (suc p)) (literal index (suc p))

-- the label of an edge by its index within its state: that of the state, or else its own, or else that of its valuation
abbrev pub label_at : ℕ → State → ℕ → Edge → LabelTree
label_at count state index edge =
    unwrap_or (option_or state.label edge.label) (valuation_label index count)

-- whether a state and its edges have no labels, and there is an edge for each valuation of `count` propositions
abbrev pub is_full : ℕ → State → Bool
is_full count state = is_none state.label && list_all (λ edge. is_none edge.label) state.edges
    && length state.edges == 2 ^ count
