-- The labels of the edges of a state, and the states of an automaton by their numbers.
use Rattle.std.specs.Prelude.{ℕ, ◌+◌, ◌==◌, Bool, if◌then◌else◌, List, [], ◌∷◌, length, map, None}
use Rattle.omega_hoa_label.specs.Label.{LabelTree}
use Rattle.omega_hoa_automaton.specs.Automaton.{Description}
use Rattle.omega_hoa_automaton.specs.declared.edge.Edge.{Edge}
use Rattle.omega_hoa_automaton.specs.declared.state.State.{State}
use Rattle.omega_hoa_edges.specs.Labels.{is_full, label_at}

-- the results of `given` for each edge of a list and its index, counted from the first index
abbrev pub each_by_index : {X : Type 0} → (ℕ → Edge → X) → ℕ → List Edge → List X
each_by_index given index [] = []
each_by_index given index (edge ∷ edges) = given index edge ∷ each_by_index given (index + 1) edges

-- the labels of the edges of a state, over `count` propositions
abbrev pub labels_of : ℕ → State → List LabelTree
labels_of count state = each_by_index (label_at count state) 0 state.edges

-- a state that the body does not define
abbrev pub undefined : ℕ → State
undefined number = record { label = None; number = number; name = None; marks = []; edges = [] }

-- the first state with a number, or a state without edges if no state has it
abbrev pub state_among : List State → ℕ → State
state_among [] number = undefined number
state_among (state ∷ states) number =
    if state.number == number then state else state_among states number

-- the state with a number of an automaton
abbrev pub state_at : Description → ℕ → State
state_at a number = state_among a.defined number

-- the numbers of the states that an automaton defines, in the order written
abbrev pub defined_numbers : Description → List ℕ
defined_numbers a = map (λ state. state.number) a.defined

-- whether the state with a number has an edge for each valuation, and no labels
abbrev pub is_full_at : Description → ℕ → Bool
is_full_at a number = is_full (length a.propositions) (state_at a number)

-- the labels of the edges of the state with a number
abbrev pub labels_at : Description → ℕ → List LabelTree
labels_at a number = labels_of (length a.propositions) (state_at a number)
