-- Laws of the answers about texts of circuits, whatever makes them.
use Rattle.std.specs.Prelude.{◌≡◌, List, ℕ}
use Rattle.omega_aiger.specs.Text.{IsCircuitText, IsCircuitTextRefusal}
use Rattle.omega_answers_circuit.specs.Canon.{IsCircuitCanonAnswer}
use Rattle.omega_answers_circuit.specs.Check.{IsCircuitCheckAnswer}
use Rattle.omega_answers_circuit.specs.Show.{IsCircuitShowAnswer}
use Rattle.omega_answers_circuit.specs.ShowJson.{IsCircuitShowJsonAnswer}
use Rattle.omega_answers_circuit.specs.WriteAutomaton.{IsAutomatonTextOf, IsCircuitAutomatonAnswer}
use Rattle.omega_answers_circuit.specs.declared.circuit_form.CircuitForm.{CircuitForm}
use Rattle.omega_circuit.specs.Canonical.{IsCanonicalCircuit, MeanTheSame}
use Rattle.omega_circuit.specs.Circuit.{CircuitValue}
use Rattle.omega_text.specs.declared.refusal.Refusal.{Refusal}

-- a question has at most one answer for each text
abbrev pub HasOneAnswer : ((text output : List ℕ) → Type 0) → Type 0
HasOneAnswer IsAnswer =
    (text output other : List ℕ) → IsAnswer text output → IsAnswer text other → output ≡ other

-- `check` and `show` have one answer for each text, and none for one that is refused
pub record CircuitAnswersAreOne : Type 0 where
  pub check : HasOneAnswer IsCircuitCheckAnswer
  pub show : HasOneAnswer IsCircuitShowAnswer
  pub json : HasOneAnswer IsCircuitShowJsonAnswer
  pub apart : (text output : List ℕ) (refusal : Refusal) → IsCircuitCheckAnswer text output
      → IsCircuitTextRefusal text refusal → ⊥

-- what `canon` writes of a text says a circuit in canonical form that means the same as the circuit of the text
abbrev pub CanonicalCircuitTextsMeanTheSame : Type 0
CanonicalCircuitTextsMeanTheSame = (form : CircuitForm) (text output : List ℕ)
    → IsCircuitCanonAnswer form text output → (c d : CircuitValue) → IsCircuitText text c
    → IsCircuitText output d → IsCanonicalCircuit d × MeanTheSame c d

-- `canon` returns what it wrote as it is
abbrev pub CanonicalCircuitTextsAreKept : Type 0
CanonicalCircuitTextsAreKept = (form : CircuitForm) (text output : List ℕ)
    → IsCircuitCanonAnswer form text output → (again : List ℕ) → IsCircuitCanonAnswer form output again
    → again ≡ output

-- what `canon` makes of its own text in another form says the same circuit
abbrev pub CircuitFormsSayTheSame : Type 0
CircuitFormsSayTheSame = (form other : CircuitForm) (text output changed : List ℕ)
    → IsCircuitCanonAnswer form text output → IsCircuitCanonAnswer other output changed
    → (c : CircuitValue) → IsCircuitText output c → IsCircuitText changed c

-- what `canon` writes of one text in two forms means the same
abbrev pub CircuitFormsMeanTheSame : Type 0
CircuitFormsMeanTheSame = (form other : CircuitForm) (text one two : List ℕ)
    → IsCircuitCanonAnswer form text one → IsCircuitCanonAnswer other text two → (c d : CircuitValue)
    → IsCircuitText one c → IsCircuitText two d → MeanTheSame c d

-- what `automaton` writes for a text is the text of an automaton of the circuit that the text says
abbrev pub CircuitAutomataAreOfTexts : Type 0
CircuitAutomataAreOfTexts = (text output : List ℕ) (c : CircuitValue) → IsCircuitText text c
    → IsCircuitAutomatonAnswer text output → IsAutomatonTextOf c output
