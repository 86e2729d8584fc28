-- The text of a circuit, and the forms in which it is written.
use Rattle.std.specs.Prelude.{◌⊎◌, List, ℕ}
use Rattle.omega_aiger.specs.BinaryText.{binary_text}
use Rattle.omega_aiger.specs.Text.{IsCircuitText, IsCircuitTextRefusal}
use Rattle.omega_aiger.specs.Written.{ascii_text}
use Rattle.omega_answers_circuit.specs.declared.circuit_form.CircuitForm.{CircuitForm}
use Rattle.omega_answers_circuit.specs.declared.circuit_form.CircuitForm.TheVariants.{Ascii, Binary}
use Rattle.omega_circuit.specs.Circuit.{CircuitValue}
use Rattle.omega_text.specs.declared.refusal.Refusal.{Refusal}

-- it is the text of a circuit of which this holds
pub record OfCircuit (Holds : CircuitValue → Type 0) (text : List ℕ) : Type 0 where
  pub circuit : CircuitValue
  pub read : IsCircuitText text circuit
  pub holds : Holds circuit

-- it is not the text of a circuit, or its circuit is refused so
abbrev pub IsRefusalOfCircuit : (CircuitValue → Refusal → Type 0) → (text : List ℕ) → Refusal → Type 0
IsRefusalOfCircuit Refuses text refusal =
    IsCircuitTextRefusal text refusal ⊎ OfCircuit (λ circuit. Refuses circuit refusal) text

-- the text of a circuit in a form
abbrev pub circuit_text : CircuitForm → CircuitValue → List ℕ
circuit_text Ascii c = ascii_text c
circuit_text Binary c = binary_text c
