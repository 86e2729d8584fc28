-- An automaton without its useless states: what stays keeps its order, and states are renumbered.
use Rattle.std.specs.Prelude.{◌≡◌, ℕ, ◌+◌, Bool, ◌||◌, if◌then◌else◌, List, [], ◌∷◌}
use Rattle.std.specs.Prelude.{length, map, filter, nat_eq, is_some, Option, None, Some}
use Rattle.std.specs.List.{list_all, list_any, position_or_len}
use Rattle.omega_hoa_label.specs.Label.{LabelTree}
use Rattle.omega_hoa_automaton.specs.Automaton.{Description}
use Rattle.omega_hoa_automaton.specs.declared.edge.Edge.{Edge}
use Rattle.omega_hoa_automaton.specs.declared.state.State.{State}
use Rattle.omega_hoa_edges.specs.Labels.{label_at}
use Rattle.omega_lang_trim.specs.Useful.{AreUsefulStates}

-- whether the state with a number stays
abbrev pub stays : List ℕ → ℕ → Bool
stays kept number = list_any (nat_eq number) kept

-- the new number of a state that stays: its place among those that stay
abbrev pub new_number : List ℕ → ℕ → ℕ
new_number kept number = position_or_len (nat_eq number) kept

-- whether an edge of a state that stays does so too: each state that it leads to stays
abbrev pub edge_stays : List ℕ → Edge → Bool
edge_stays kept edge = list_all (stays kept) edge.targets

-- whether the labels of the edges of a state stay as they are: the state has a label, or all of its edges stay
abbrev pub keeps_labels : List ℕ → State → Bool
keeps_labels kept state = is_some state.label || list_all (edge_stays kept) state.edges

-- the label of an edge by its index within its state. An edge without a label has that of its valuation if an edge of
-- its state goes, since the others no longer are one for each valuation
abbrev pub label_kept : Bool → ℕ → State → ℕ → Edge → Option LabelTree
label_kept as_written count state index edge =
    if as_written then edge.label else Some (label_at count state index edge)

-- an edge that stays
abbrev pub edge_kept : List ℕ → Bool → ℕ → State → ℕ → Edge → Edge
edge_kept kept as_written count state index edge = record {
  label = label_kept as_written count state index edge;
  targets = map (new_number kept) edge.targets;
  marks = edge.marks;
}

-- those edges of a list that stay, which are counted from an index
abbrev pub edges_kept : List ℕ → Bool → ℕ → State → ℕ → List Edge → List Edge
edges_kept kept as_written count state index [] = []
edges_kept kept as_written count state index (edge ∷ edges) =
    if edge_stays kept edge then edge_kept kept as_written count state index edge
    ∷ edges_kept kept as_written count state (index + 1) edges
    else edges_kept kept as_written count state (index + 1) edges

-- a state that stays, over `count` propositions
abbrev pub state_kept : List ℕ → ℕ → State → State
state_kept kept count state = record {
  label = state.label;
  number = new_number kept state.number;
  name = state.name;
  marks = state.marks;
  edges = edges_kept kept (keeps_labels kept state) count state 0 state.edges;
}

-- those states of a list that stay
abbrev pub states_kept : List ℕ → ℕ → List State → List State
states_kept kept count states =
    map (state_kept kept count) (filter (λ state. stays kept state.number) states)

-- those starts of a list that stay
abbrev pub starts_kept : List ℕ → List (List ℕ) → List (List ℕ)
starts_kept kept starts = map (map (new_number kept)) (filter (list_all (stays kept)) starts)

-- the automaton with these of its states alone
abbrev pub trimmed : List ℕ → Description → Description
trimmed kept a = record {
  tool = None;
  name = a.name;
  states = length kept;
  starts = starts_kept kept a.starts;
  propositions = a.propositions;
  acc_name = a.acc_name;
  sets = a.sets;
  acceptance = a.acceptance;
  properties = [];
  unknown = [];
  defined = states_kept kept (length a.propositions) a.defined;
}

-- an automaton is another one with its useful states alone
pub record IsTrimmed (a trim : Description) : Type 0 where
  pub kept : List ℕ
  pub useful : AreUsefulStates a kept
  pub is : trim ≡ trimmed kept a
