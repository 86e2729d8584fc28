-- The automaton of a circuit: which words it accepts, and what its header says.
use Rattle.std.specs.Prelude.{◌≡◌, ◌↔◌, ◌<◌, ℕ, Bool, IsTrue, List, [], ◌∷◌, Some, None}
use Rattle.std.specs.Prelude.{All, codes, length, map, slice_get}
use Rattle.std.specs.List.{range_with_len}
use Rattle.omega_text.specs.NamedWords.{NamedWord}
use Rattle.omega_hoa_acceptance.specs.Kind.{buchi_formula}
use Rattle.omega_hoa_automaton.specs.Automaton.{Description}
use Rattle.omega_hoa_automaton.specs.declared.header.Header.{Header}
use Rattle.omega_hoa_edges.specs.AutomatonLabels.{labels_at, state_at}
use Rattle.omega_hoa_label.specs.Label.{LabelTree, truth}
use Rattle.omega_hoa_syntax.specs.declared.header_value.HeaderValue.TheVariants.{Number}
use Rattle.omega_lang_product.specs.Acceptance.{buchi_name}
use Rattle.omega_lang_runs.specs.Lasso.{IsStep}
use Rattle.omega_lang_runs.specs.Words.{CanBeTaken}
use Rattle.omega_lang_word_laws.specs.NamedWords.{AcceptsNamed}
use Rattle.omega_circuit.specs.Circuit.{CircuitValue}
use Rattle.omega_circuit.specs.Rounds.{HasInputs, IsRound, IsWordOf, first_latches}
use Rattle.omega_circuit_automaton.specs.Names.{proposition_names}
use Rattle.omega_circuit_automaton.specs.Valuations.{latch_values, next_values, valuation_at, valuation_name}

-- an automaton accepts exactly the words of a circuit
abbrev pub AcceptsWordsOf : CircuitValue → Description → Type 0
AcceptsWordsOf c a = (word : NamedWord) → AcceptsNamed a word ↔ IsWordOf c word

-- two letters agree on the first propositions
abbrev pub AgreeBelow : ℕ → (ℕ → Bool) → (ℕ → Bool) → Type 0
AgreeBelow count one other = (p : ℕ) → p < count → one p ≡ other p

-- of some labels exactly one can be true at letters with these inputs
pub record AnswersOnce (labels : List LabelTree) (inputs : ℕ) (letter : ℕ → Bool) : Type 0 where
  pub index : ℕ
  pub label : LabelTree
  pub here : slice_get labels index ≡ Some label
  pub answer : ℕ → Bool
  pub agrees : AgreeBelow inputs letter answer
  pub holds : IsTrue (truth answer label)
  pub only : (other : ℕ) (other_label : LabelTree) → slice_get labels other ≡ Some other_label
      → (other_answer : ℕ → Bool) → AgreeBelow inputs letter other_answer
      → IsTrue (truth other_answer other_label) → other ≡ index

-- in each state exactly one edge answers each letter of the inputs
abbrev pub AnswersEachOnce : CircuitValue → Description → Type 0
AnswersEachOnce c a = (state : ℕ) (letter : ℕ → Bool) → state < a.states
    → AnswersOnce (labels_at a state) (length c.inputs) letter

-- the item that says that the system decides the outputs, which are numbered after the inputs
abbrev pub controllable_outputs : CircuitValue → Header
controllable_outputs c = record {
  name = codes "controllable-AP";
  values = map Number (range_with_len (length c.inputs) (length c.outputs));
}

-- the header: it begins in state 0, its propositions are inputs and then outputs, the system decides the outputs, and
-- each run is accepted
pub record HasCircuitHeader (c : CircuitValue) (a : Description) : Type 0 where
  pub starts : a.starts ≡ (0 ∷ []) ∷ []
  pub propositions : a.propositions ≡ proposition_names c
  pub controllable : a.unknown ≡ controllable_outputs c ∷ []
  pub acc_name : a.acc_name ≡ Some (buchi_name 0)
  pub acceptance : a.acceptance ≡ buchi_formula 0
  pub sets : a.sets ≡ 0
  pub unnamed : a.name ≡ None
  pub no_tool : a.tool ≡ None
  pub no_properties : a.properties ≡ []

-- its states are valuations of the latches, beginning with the resets and named by their values; an edge that can be
-- taken with a round's inputs leads from the round's valuation to the one after it
pub record HasValuations (c : CircuitValue) (a : Description) : Type 0 where
  pub valuations : List (List Bool)
  pub counted : a.states ≡ length valuations
  pub first : valuation_at valuations 0 ≡ first_latches c
  pub long : All (λ (valuation : List Bool). length valuation ≡ length c.latches) valuations
  pub named : (number : ℕ) → number < a.states
      → (state_at a number).name ≡ valuation_name (valuation_at valuations number)
  pub leads : (from number to : ℕ) (letter round : ℕ → Bool) → from < length valuations
      → IsStep a from number to → CanBeTaken a number letter → IsRound c round
      → latch_values c.latches round ≡ valuation_at valuations from → HasInputs c round letter
      → valuation_at valuations to ≡ next_values c.latches round
