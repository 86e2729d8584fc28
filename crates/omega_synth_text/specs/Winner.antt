-- The automaton of a controller or of a counter-strategy: the states that are reached, numbered in their order, the
-- kept edges with their labels, and every word of it accepted. The edges of a counter-strategy also demand the letter
-- of their state, and a state whose letter no edge answers has an edge back to it for that letter.
use Rattle.std.specs.Prelude.{◌≡◌, ℕ, suc, ◌+◌, ◌&&◌, Bool, true, not, List, [], ◌∷◌, Option, None, Some}
use Rattle.std.specs.Prelude.{codes, count_by, filter, if◌then◌else◌, length, map, nat_lt, slice_index_or}
use Rattle.std.specs.List.{range_with_len}
use Rattle.omega_hoa_acceptance.specs.Acceptance as acc
use Rattle.omega_hoa_acceptance.specs.declared.name.AccName.{AccName}
use Rattle.omega_hoa_label.specs.Label.{LabelTree, conjunction, constant, negation, proposition}
use Rattle.omega_hoa_syntax.specs.declared.header_value.HeaderValue.TheVariants as value
use Rattle.omega_hoa_automaton.specs.Automaton.{Description, edge_count}
use Rattle.omega_hoa_automaton.specs.declared.edge.Edge.{Edge}
use Rattle.omega_hoa_automaton.specs.declared.header.Header.{Header}
use Rattle.omega_hoa_automaton.specs.declared.state.State.{State}
use Rattle.omega_canon.specs.Canonical.{canonical_automaton}
use Rattle.omega_graph.specs.Graph.{listed}
use Rattle.omega_hoa_edges.specs.Labels.{label_at}
use Rattle.omega_synth_text.specs.Reaching.{TellsReached}

-- the inputs: the propositions that the system does not control
abbrev pub inputs_of : Description → List ℕ → List ℕ
inputs_of a controlled =
    filter (λ p. not (listed controlled p)) (range_with_len 0 (length a.propositions))

-- a proposition if it holds, else its negation
abbrev pub literal : Bool → ℕ → LabelTree
literal holds p = if holds then proposition p else negation (proposition p)

-- a label, and after it literals of propositions
abbrev pub with_literals : (ℕ → Bool) → LabelTree → List ℕ → LabelTree
with_literals held label [] = label
with_literals held label (p ∷ others) =
    with_literals held (conjunction label (literal (held p) p)) others

-- a letter as a label: the conjunction of the literals of propositions; `t` if there are none
abbrev pub letter_label : (ℕ → Bool) → List ℕ → LabelTree
letter_label held [] = constant true
letter_label held (p ∷ others) = with_literals held (literal (held p) p) others

-- the letter of a state, which is given by the propositions that hold
abbrev pub state_letter : List ℕ → List (List ℕ) → ℕ → LabelTree
state_letter inputs letters state = letter_label (listed (slice_index_or letters state [])) inputs

-- a label, joined with a letter if there is one
abbrev pub demanding : Option LabelTree → LabelTree → LabelTree
demanding None label = label
demanding (Some letter) label = conjunction letter label

-- the number of a state: how many states with lower numbers are reached
abbrev pub number_of : (ℕ → Bool) → ℕ → ℕ
number_of reached state = count_by reached (range_with_len 0 state)

-- an edge of a state with an index and its own label, over `count` propositions
abbrev pub kept_edge : (count : ℕ) → (reached : ℕ → Bool) → Option LabelTree → State
    → (index : ℕ) → Edge → Edge
kept_edge count reached letter state index edge = record {
  label = Some (demanding letter (label_at count state index edge));
  targets = map (number_of reached) edge.targets;
  marks = [];
}

-- the kept ones among edges of a state, of which the first has this index in the state and this number
abbrev pub kept_edges : (kept : ℕ → Bool) → (ℕ → Edge → Edge) → (index number : ℕ)
    → List Edge → List Edge
kept_edges kept edge_of index number [] = []
kept_edges kept edge_of index number (edge ∷ edges) =
    if kept number then edge_of index edge ∷ kept_edges kept edge_of (suc index) (suc number) edges
    else kept_edges kept edge_of (suc index) (suc number) edges

-- an edge from the state with a number back to it, for a letter
abbrev pub letter_edge : LabelTree → ℕ → Edge
letter_edge letter number = record { label = Some letter; targets = number ∷ []; marks = [] }

-- the edges of the state with a number; if there are none and the state has a letter, the edge for this letter
abbrev pub with_letter : Option LabelTree → (number : ℕ) → List Edge → List Edge
with_letter None number edges = edges
with_letter (Some letter) number [] = letter_edge letter number ∷ []
with_letter (Some letter) number (edge ∷ edges) = edge ∷ edges

-- a state that is reached, with its kept edges, of which the first has this number, or with its letter
abbrev pub kept_state : (count : ℕ) → (kept reached : ℕ → Bool) → (letters : ℕ → Option LabelTree)
    → (number : ℕ) → State → State
kept_state count kept reached letters number state = record {
  label = None;
  number = number_of reached state.number;
  name = state.name;
  marks = [];
  edges = with_letter (letters state.number) (number_of reached state.number)
      (kept_edges kept (kept_edge count reached (letters state.number) state) 0 number state.edges);
}

-- the reached ones among states; the first edge of all of them has this number
abbrev pub kept_states : (kept_state : ℕ → State → State) → (reached : ℕ → Bool) → (number : ℕ)
    → List State → List State
kept_states kept_state reached number [] = []
kept_states kept_state reached number (state ∷ states) =
    if reached state.number then kept_state number state
    ∷ kept_states kept_state reached (number + length state.edges) states
    else kept_states kept_state reached (number + length state.edges) states

-- the name of the acceptance of all words
abbrev pub all_words : AccName
all_words = record { name = codes "all"; parameters = [] }

-- the header item that lists the propositions that the system controls
abbrev pub controllable_item : List ℕ → Header
controllable_item controlled = record {
  name = codes "controllable-AP";
  values = map value.Number controlled;
}

-- whether a number is that of a kept edge
abbrev pub is_kept_edge : Description → List ℕ → ℕ → Bool
is_kept_edge a kept number = nat_lt number (edge_count a) && listed kept number

-- the automaton of kept edges; edges of a state also demand its letter, if there is one
abbrev pub winner : Description → (controlled kept : List ℕ) → (reached : ℕ → Bool)
    → (letters : ℕ → Option LabelTree) → Description
winner a controlled kept reached letters = record {
  tool = None;
  name = None;
  states = number_of reached a.states;
  starts = map (λ start. map (number_of reached) start) a.starts;
  propositions = a.propositions;
  acc_name = Some all_words;
  sets = 0;
  acceptance = acc.constant true;
  properties = [];
  unknown = controllable_item controlled ∷ [];
  defined = kept_states
      (kept_state (length a.propositions) (is_kept_edge a kept) reached letters) reached 0 a.defined;
}

-- the canonical text of the automaton of kept edges
abbrev pub IsWinnerText : Description → (controlled kept : List ℕ)
    → (letters : ℕ → Option LabelTree) → List ℕ → Type 0
IsWinnerText a controlled kept letters text =
    (reached : ℕ → Bool) × TellsReached a kept reached
    × (text ≡ canonical_automaton (winner a controlled kept reached letters))

-- the text of the controller of kept edges
abbrev pub IsControllerText : Description → (controlled kept : List ℕ) → List ℕ → Type 0
IsControllerText a controlled kept = IsWinnerText a controlled kept (λ state. None)

-- the text of the counter-strategy of kept edges, with the letter of each state
abbrev pub IsCounterStrategyText : Description → (controlled kept : List ℕ)
    → List (List ℕ) → List ℕ → Type 0
IsCounterStrategyText a controlled kept letters =
    IsWinnerText a controlled kept (λ state. Some (state_letter (inputs_of a controlled) letters state))
