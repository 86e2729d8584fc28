-- The automaton of a circuit as a text writes it (HOA v1, header and body).
use Rattle.std.specs.Prelude.{◌≡◌, ◌<◌, ◌+◌, ℕ, Bool, List, [], ◌∷◌, All}
use Rattle.std.specs.Prelude.{Some, None, length, map, codes, slice_index_or}
use Rattle.std.specs.List.{AllZip, range_with_len}
use Rattle.omega_hoa_acceptance.specs.Kind.{buchi_formula}
use Rattle.omega_hoa_acceptance.specs.Writing.{acc_written}
use Rattle.omega_hoa_label.specs.Label.{LabelTree, truth}
use Rattle.omega_hoa_label.specs.Writing.{label_written}
use Rattle.omega_hoa_syntax.specs.declared.header_value.HeaderValue.TheVariants.{Number}
use Rattle.omega_hoa_syntax.specs.declared.raw_automaton.RawAutomaton.{RawAutomaton}
use Rattle.omega_hoa_syntax.specs.declared.raw_edge.RawEdge.{RawEdge}
use Rattle.omega_hoa_syntax.specs.declared.raw_item.RawItem.{RawItem}
use Rattle.omega_hoa_syntax.specs.declared.raw_item.RawItem.TheVariants as item
use Rattle.omega_hoa_syntax.specs.declared.raw_state.RawState.{RawState}
use Rattle.omega_lang_product.specs.Acceptance.{buchi_name}
use Rattle.omega_text.specs.Cases.{never, or_memory, or_task}
use Rattle.omega_text.specs.declared.refusal.Refusal.{Refusal}
use Rattle.omega_text.specs.declared.refusal.task.TaskFault.TheVariants.{TooLarge}
use Rattle.omega_circuit.specs.Circuit.{CircuitValue}
use Rattle.omega_circuit.specs.Rounds.{first_latches}
pub use Rattle.omega_circuit_automaton.specs.Valuations.{digit_of, valuation_name}
use Rattle.omega_circuit_automaton.specs.declared.ternary.Ternary.{Ternary}
use Rattle.omega_circuit_automaton.specs.private.Cuts.{Cut, IsCutOf, answering, fits}
use Rattle.omega_circuit_automaton.specs.private.Cuts.{fitting, pattern_of, valuation_at}

-- an edge as it is written
pub record IsWrittenCut (cut : Cut) (raw : RawEdge) : Type 0 where
  pub label : LabelTree
  pub label_is : raw.label ≡ Some (label_written label)
  pub exact : (letter : ℕ → Bool) → truth letter label ≡ fits (pattern_of cut) letter
  pub targets : raw.targets ≡ cut.target ∷ []
  pub marks : raw.marks ≡ None

-- the edge of a cube with these outputs, which leads to a valuation
pub record IsEdgeWith (cube : List Ternary) (outputs nexts : List Bool) (valuations : List (List Bool))
    (raw : RawEdge) : Type 0 where
  pub target : ℕ
  pub low : target < length valuations
  pub is : valuation_at valuations target ≡ nexts
  pub written : IsWrittenCut (record { cube = cube; outputs = outputs; target = target }) raw

-- edges that were made of a state, and cubes of it that are left: each letter of the inputs fits one of all these
pub record IsSplitting (c : CircuitValue) (valuations : List (List Bool)) (latches : List Bool)
    (pending : List (List Ternary)) (raw : List RawEdge) : Type 0 where
  pub cuts : List Cut
  pub written : AllZip IsWrittenCut cuts raw
  pub right : All (IsCutOf c valuations latches) cuts
  pub long : All (λ (cube : List Ternary). length cube ≡ length c.inputs) pending
  pub once : (letter : ℕ → Bool) → answering letter cuts + fitting letter pending ≡ 1

-- the edges of a state: each letter of the inputs fits one
abbrev pub AreEdgesOf : CircuitValue → List (List Bool) → List Bool → List RawEdge → Type 0
AreEdgesOf c valuations latches raw = IsSplitting c valuations latches [] raw

-- the state with a number as it is written
pub record IsWrittenState (c : CircuitValue) (valuations : List (List Bool)) (number : ℕ)
    (raw : RawState) : Type 0 where
  pub label : raw.label ≡ None
  pub number_is : raw.number ≡ number
  pub name_is : raw.name ≡ valuation_name (valuation_at valuations number)
  pub marks : raw.marks ≡ None
  pub edges_are : AreEdgesOf c valuations (valuation_at valuations number) raw.edges

-- valuations, of which the first ones are states as they are written
pub record IsExploring (c : CircuitValue) (valuations : List (List Bool))
    (states : List RawState) : Type 0 where
  pub some : 0 < length valuations
  pub start : valuation_at valuations 0 ≡ first_latches c
  pub known : All (λ (valuation : List Bool). length valuation ≡ length c.latches) valuations
  pub states_are : (number : ℕ) (d : RawState) → number < length states
      → IsWrittenState c valuations number (slice_index_or states number d)

-- the states of the automaton of a circuit as they are written
pub record AreStates (c : CircuitValue) (states : List RawState) : Type 0 where
  pub valuations : List (List Bool)
  pub exploring : IsExploring c valuations states
  pub all : length states ≡ length valuations

-- the header
abbrev pub header_of : (names : List (List ℕ)) → (inputs states : ℕ) → (outputs : ℕ) → List RawItem
header_of names inputs states outputs = item.States states ∷ item.Start (0 ∷ [])
    ∷ item.Propositions (length names) names ∷ item.AccName (buchi_name 0)
    ∷ item.Acceptance 0 (acc_written (buchi_formula 0))
    ∷ item.Unknown (codes "controllable-AP") (map Number (range_with_len inputs outputs)) ∷ []

-- the automaton of a circuit as it is written, with these propositions
pub record IsWrittenAutomaton (c : CircuitValue) (names : List (List ℕ)) (raw : RawAutomaton) : Type 0 where
  pub items : raw.items ≡ header_of names (length c.inputs) (length raw.states) (length c.outputs)
  pub states : AreStates c raw.states

-- a refusal because a limit is passed, or for want of memory
abbrev pub IsLarge : Refusal → Type 0
IsLarge = or_task (λ fault. fault ≡ TooLarge) (or_memory never)
