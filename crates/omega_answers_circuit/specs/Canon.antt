-- The answer of `canon` for the text of a circuit: the text of its canonical form.
use Rattle.std.specs.Prelude.{◌≡◌, ◌<◌, ◌≤◌, List, ℕ, length}
use Rattle.omega_aiger.specs.Text.{IsCircuitText}
use Rattle.omega_answers_circuit.specs.Circuit.{IsRefusalOfCircuit, OfCircuit, circuit_text}
use Rattle.omega_answers_circuit.specs.declared.circuit_form.CircuitForm.{CircuitForm}
use Rattle.omega_circuit.specs.Canonical.{IsCanonicalCircuit, MeanTheSame}
use Rattle.omega_circuit.specs.Circuit.{CircuitValue, IsCircuit}
use Rattle.omega_text.specs.Limits.{most_text}
use Rattle.omega_text.specs.declared.refusal.Refusal.{Refusal}
use Rattle.omega_text.specs.declared.refusal.Refusal.TheVariants.{Text}
use Rattle.omega_text.specs.declared.refusal.text.TextFault.TheVariants.{TooLong}

-- a circuit in canonical form that means the same as another one, and is that one if it is in canonical form
pub record IsCanonicalForm (c canonical : CircuitValue) : Type 0 where
  pub circuit : IsCircuit canonical
  pub shape : IsCanonicalCircuit canonical
  pub same : MeanTheSame c canonical
  pub kept : IsCanonicalCircuit c → canonical ≡ c

-- the text of the canonical form of a circuit, within the limit of texts
pub record IsCanonicalText (form : CircuitForm) (c : CircuitValue) (output : List ℕ) : Type 0 where
  pub canonical : CircuitValue
  pub canonical_is : IsCanonicalForm c canonical
  pub written : output ≡ circuit_text form canonical
  pub short : length output ≤ most_text

-- the same, and it is read back to the canonical form
pub record IsCanonicalTextRead (form : CircuitForm) (c : CircuitValue) (output : List ℕ) : Type 0 where
  pub text : IsCanonicalText form c output
  pub read : IsCircuitText output text.canonical

-- the answer of `canon`: the text is that of a circuit, and the text of its canonical form is written, which is read
-- back to it
abbrev pub IsCircuitCanonAnswer : CircuitForm → (text output : List ℕ) → Type 0
IsCircuitCanonAnswer form text output = OfCircuit (λ circuit. IsCanonicalTextRead form circuit output) text

-- the text of the canonical form of a circuit is over the limit of texts
pub record IsCanonicalTextTooLong (form : CircuitForm) (c : CircuitValue) (refusal : Refusal) : Type 0 where
  pub canonical : CircuitValue
  pub canonical_is : IsCanonicalForm c canonical
  pub long : most_text < length (circuit_text form canonical)
  pub refused : refusal ≡ Text TooLong

-- the refusal of `canon`: that of the text, or else the text that would be written is too long
abbrev pub IsCircuitCanonRefusal : CircuitForm → (text : List ℕ) → Refusal → Type 0
IsCircuitCanonRefusal form = IsRefusalOfCircuit (IsCanonicalTextTooLong form)
