-- What an automaton text without a fault means: the value, part by part (docs/formats.md,
-- meaning of an automaton text).
use Rattle.std.specs.Prelude.{◌≡◌, ◌↔◌, ℕ, List, [], Option, Some, None, Contains, option_and_then, unwrap_or}
use Rattle.std.specs.List.{AllZip, filter_map, flat_map}
use Rattle.std.specs.List.Sorted.{IsStrictlyIncreasing}
use Rattle.omega_text.specs.Cases.{never, or_automaton, or_memory}
use Rattle.omega_text.specs.declared.refusal.Refusal.{Refusal}
use Rattle.omega_hoa_acceptance.specs.Meaning.{acc_meant}
use Rattle.omega_hoa_label_text.specs.Expanding.{Defined, IsExpansion}
use Rattle.omega_hoa_label.specs.Label.{LabelTree}
use Rattle.omega_hoa_label.specs.Raw.{RawLabelTree}
use Rattle.omega_hoa_syntax.specs.declared.raw_automaton.RawAutomaton.{RawAutomaton}
use Rattle.omega_hoa_syntax.specs.declared.raw_edge.RawEdge.{RawEdge}
use Rattle.omega_hoa_syntax.specs.declared.raw_state.RawState.{RawState}
use Rattle.omega_hoa_automaton.specs.Automaton.{Description}
use Rattle.omega_hoa_automaton.specs.Faults.{definitions_of, automaton_fault_of}
use Rattle.omega_hoa_automaton.specs.Faults.{names_of, set_count, state_count}
use Rattle.omega_hoa_automaton.specs.Items.{acc_name_in, acceptance_in, first_said, name_in}
use Rattle.omega_hoa_automaton.specs.Items.{properties_in, start_in, tool_in, unknown_in}
use Rattle.omega_hoa_automaton.specs.declared.edge.Edge.{Edge}
use Rattle.omega_hoa_automaton.specs.declared.state.State.{State}

-- the set of marks that are written: the same ones, rising, each once
pub record AreMarksOf (written : List ℕ) (marks : List ℕ) : Type 0 where
  pub rising : IsStrictlyIncreasing marks
  pub same : (mark : ℕ) → Contains marks mark ↔ Contains written mark

-- the marks between braces; no braces are no marks
abbrev pub written_marks : Option (List ℕ) → List ℕ
written_marks marks = unwrap_or marks []

-- a label with its aliases replaced, or none for none
abbrev pub IsLabelOf : List Defined → Option RawLabelTree → Option LabelTree → Type 0
IsLabelOf definitions None None = Unit {0}
IsLabelOf definitions None (Some label) = ⊥
IsLabelOf definitions (Some raw) None = ⊥
IsLabelOf definitions (Some raw) (Some label) = IsExpansion definitions raw label

-- an edge of the body, its aliases replaced and its marks a set
pub record IsEdgeOf (definitions : List Defined) (raw : RawEdge) (edge : Edge) : Type 0 where
  pub label : IsLabelOf definitions raw.label edge.label
  pub targets : edge.targets ≡ raw.targets
  pub marks : AreMarksOf (written_marks raw.marks) edge.marks

-- a state of the body, its aliases replaced and its marks a set
pub record IsStateOf (definitions : List Defined) (raw : RawState) (state : State) : Type 0 where
  pub label : IsLabelOf definitions raw.label state.label
  pub number : state.number ≡ raw.number
  pub name : state.name ≡ raw.name
  pub marks : AreMarksOf (written_marks raw.marks) state.marks
  pub edges : AllZip (IsEdgeOf definitions) raw.edges state.edges

-- an automaton that is written means this one: it has no fault, and each part is as it is written
pub record Means (raw : RawAutomaton) (a : Description) : Type 0 where
  pub faultless : automaton_fault_of raw ≡ None
  pub tool : a.tool ≡ first_said tool_in raw.items
  pub name : a.name ≡ first_said name_in raw.items
  pub states : a.states ≡ state_count raw
  pub starts : a.starts ≡ filter_map start_in raw.items
  pub propositions : a.propositions ≡ names_of raw
  pub acc_name : a.acc_name ≡ first_said acc_name_in raw.items
  pub sets : a.sets ≡ set_count raw
  pub acceptance : option_and_then (λ accepted. acc_meant accepted.formula)
      (first_said acceptance_in raw.items) ≡ Some a.acceptance
  pub properties : a.properties ≡ flat_map properties_in raw.items
  pub unknown : a.unknown ≡ filter_map unknown_in raw.items
  pub defined : AllZip (IsStateOf (definitions_of raw)) raw.states a.defined

-- a refusal by the fault of an automaton that is written, or want of memory
abbrev pub IsMeaningless : RawAutomaton → Refusal → Type 0
IsMeaningless raw = or_automaton (λ fault. automaton_fault_of raw ≡ Some fault) (or_memory never)
