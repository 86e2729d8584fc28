-- The complement of a deterministic automaton as a text writes it: header, states and edges (HOA v1, header and body).
-- Labels and the acceptance have parentheses only where they need them.
use Rattle.std.specs.Prelude.{◌≡◌, ◌⊎◌, ◌↔◌, ℕ, ◌+◌, ◌<◌, Bool, true, false, IsTrue, if◌then◌else◌, List, []}
use Rattle.std.specs.Prelude.{◌∷◌, ◌++◌, length, slice_index_or, Option, None, Some, codes}
use Rattle.std.specs.List.{AllZip, range_with_len}
use Rattle.omega_hoa_label.specs.Writing.{label_written}
use Rattle.omega_hoa_acceptance.specs.Writing.{acc_written}
use Rattle.omega_hoa_acceptance.specs.Acceptance.{AccTree}
use Rattle.omega_hoa_acceptance.specs.Acceptance as acc
use Rattle.omega_hoa_acceptance.specs.Raw.{RawAccTree}
use Rattle.omega_hoa_label.specs.Label.{LabelTree}
use Rattle.omega_hoa_label.specs.Raw.{RawLabelTree}
use Rattle.omega_hoa_label.specs.Raw as raw_label
use Rattle.omega_hoa_automaton.specs.Automaton.{Description}
use Rattle.omega_hoa_automaton.specs.declared.edge.Edge.{Edge}
use Rattle.omega_hoa_automaton.specs.declared.state.State.{State}
use Rattle.omega_hoa_syntax.specs.declared.raw_automaton.RawAutomaton.{RawAutomaton}
use Rattle.omega_hoa_syntax.specs.declared.raw_edge.RawEdge.{RawEdge}
use Rattle.omega_hoa_syntax.specs.declared.raw_item.RawItem.{RawItem}
use Rattle.omega_hoa_syntax.specs.declared.raw_item.RawItem.TheVariants as item
use Rattle.omega_hoa_syntax.specs.declared.raw_state.RawState.{RawState}
use Rattle.omega_hoa_acceptance.specs.Dual.{dual}
use Rattle.omega_hoa_edges.specs.AutomatonLabels.{each_by_index, labels_at, labels_of, state_at}
use Rattle.omega_lang_complement.specs.Letters.{IsRestLabel, LacksLetter}
use Rattle.omega_hoa_edges.specs.Labels.{label_at}

-- an edge of a state with a label, and with the marks of the state moved to it
abbrev pub turned_with : LabelTree → State → Edge → RawEdge
turned_with label state edge = record {
  label = Some (label_written label);
  targets = edge.targets;
  marks = Some (state.marks ++ edge.marks);
}

-- the edge of a state with an index, with the label and the marks of the state moved to it
abbrev pub turned_edge : ℕ → State → ℕ → Edge → RawEdge
turned_edge count state index edge = turned_with (label_at count state index edge) state edge

-- the edges of a state
abbrev pub turned_edges : ℕ → State → List RawEdge
turned_edges count state = each_by_index (turned_edge count state) 0 state.edges

-- the written label of the letters at which no edge can be taken; none if there is no such letter
abbrev pub IsMissing : List LabelTree → Option RawLabelTree → Type 0
IsMissing labels None = LacksLetter labels → ⊥
IsMissing labels (Some written) = LacksLetter labels
    × ((rest : LabelTree) × IsRestLabel labels rest × (written ≡ label_written rest))

-- the further edge to the sink for the letters that are missing
abbrev pub further_edges : ℕ → Option RawLabelTree → List RawEdge
further_edges sink None = []
further_edges sink (Some missing) =
    record { label = Some missing; targets = sink ∷ []; marks = None } ∷ []

-- the state of the complement for `state`, with an edge for each letter; `sink` is the number of the sink
pub record IsTurned (count sink : ℕ) (state : State) (raw : RawState) : Type 0 where
  pub missing : Option RawLabelTree
  pub is_missing : IsMissing (labels_of count state) missing
  pub label : raw.label ≡ None
  pub number : raw.number ≡ state.number
  pub name : raw.name ≡ state.name
  pub marks : raw.marks ≡ None
  pub edges : raw.edges ≡ turned_edges count state ++ further_edges sink missing

-- the state of the complement for the state with a number
abbrev pub IsTurnedAt : Description → ℕ → RawState → Type 0
IsTurnedAt a number raw = IsTurned (length a.propositions) a.states (state_at a number) raw

-- some state with a number below `count` lacks a letter
abbrev pub SomeLacksLetter : Description → ℕ → Type 0
SomeLacksLetter a count = (number : ℕ) × (number < count) × LacksLetter (labels_at a number)

-- a sink is needed: there is no start, or some state lacks a letter
abbrev pub NeedsSink : Description → Type 0
NeedsSink a = (a.starts ≡ []) ⊎ SomeLacksLetter a a.states

-- one if there is a sink, else zero
abbrev pub one_if : Bool → ℕ
one_if sink = if sink then 1 else 0

-- the sink, which loops at each letter and is in a set of its own
abbrev pub sink_state : Description → RawState
sink_state a = record {
  label = None;
  number = a.states;
  name = None;
  marks = None;
  edges =
      record { label = Some (raw_label.constant true); targets = a.states ∷ []; marks = Some (a.sets ∷ []) }
      ∷ [];
}

-- the sink in a list, if there is one
abbrev pub sinks : Description → Bool → List RawState
sinks a sink = if sink then sink_state a ∷ [] else []

-- the dual acceptance as it is written
abbrev pub written_dual : Description → RawAccTree
written_dual a = acc_written (dual a.acceptance)

-- the acceptance: the dual, or, if there is a sink, a word may also stay in it for ever
abbrev pub complement_acceptance : Description → Bool → AccTree
complement_acceptance a sink =
    if sink then acc.disjunction (dual a.acceptance) (acc.inf false a.sets) else dual a.acceptance

-- the start, or the sink if there is no start
abbrev pub start_or_sink : Description → List ℕ
start_or_sink a = slice_index_or a.starts 0 (a.states ∷ [])

-- the header item of the propositions
abbrev pub propositions_item : Description → RawItem
propositions_item a = item.Propositions (length a.propositions) a.propositions

-- the header
abbrev pub header : Description → Bool → List RawItem
header a sink =
    item.States (a.states + one_if sink) ∷ item.Start (start_or_sink a) ∷ propositions_item a
    ∷ item.Acceptance (a.sets + one_if sink) (acc_written (complement_acceptance a sink)) ∷ []

-- the written complement: the states by their numbers, and the sink last
pub record IsWrittenComplement (a : Description) (raw : RawAutomaton) : Type 0 where
  pub sink : Bool
  pub needed : IsTrue sink ↔ NeedsSink a
  pub version : raw.version ≡ codes "v1"
  pub items : raw.items ≡ header a sink
  pub turned : List RawState
  pub states : AllZip (λ number. IsTurnedAt a number) (range_with_len 0 a.states) turned
  pub body : raw.states ≡ turned ++ sinks a sink
