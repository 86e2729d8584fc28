-- The circuit of a controller as it is written, whoever found the controller: over the names of propositions of which
-- the system controls some.
use Rattle.std.specs.Prelude.{◌≡◌, ◌⊎◌, List, ℕ, All}
use Rattle.omega_aiger.specs.Text.{IsCircuitText}
use Rattle.omega_answers_circuit.specs.Circuit.{circuit_text}
use Rattle.omega_answers_circuit.specs.declared.circuit_form.CircuitForm.{CircuitForm}
use Rattle.omega_answers_synth.specs.private.Own.{unread_for_size}
use Rattle.omega_circuit.specs.Canonical.{IsCanonicalCircuit}
use Rattle.omega_circuit.specs.Circuit.{CircuitValue, IsCircuit}
use Rattle.omega_circuit.specs.declared.latch.Latch.{Latch}
use Rattle.omega_circuit_encoder.specs.Names.{HasNamesOf, IsSymbolName}
use Rattle.omega_circuit_encoder.specs.Refusing.{IsEncodingRefusal}
use Rattle.omega_hoa.specs.Alone.{IsAutomatonRefusal, IsAutomatonText}
use Rattle.omega_hoa_automaton.specs.Automaton.{Description}
use Rattle.omega_text.specs.declared.refusal.Refusal.{Refusal}
use Rattle.omega_text.specs.declared.refusal.Refusal.TheVariants.{Task}
use Rattle.omega_text.specs.declared.refusal.task.TaskFault.TheVariants.{Unjudged}

-- a circuit in canonical form: its inputs are the environment's propositions and its outputs the system's, in order and
-- by name, and each latch begins with 0. A symbol can have each of the names
pub record IsCircuitOver (names : List (List ℕ)) (controlled : List ℕ) (c : CircuitValue) : Type 0 where
  pub circuit : IsCircuit c
  pub shape : IsCanonicalCircuit c
  pub named : HasNamesOf names controlled c
  pub starts : All (λ (latch : Latch). latch.reset ≡ 0) c.latches
  pub writable : All IsSymbolName names

-- the text of such a circuit in a form, which is read back to it
pub record IsCircuitTextOver (form : CircuitForm) (names : List (List ℕ)) (controlled output : List ℕ)
    : Type 0 where
  pub circuit : CircuitValue
  pub circuit_is : IsCircuitOver names controlled circuit
  pub written : output ≡ circuit_text form circuit
  pub read : IsCircuitText output circuit

-- a text that the program wrote is not read as an automaton over these names
pub data IsNoneOver (names : List (List ℕ)) (text : List ℕ) (refusal : Refusal) : Type 0 where
  not_read : (found : Refusal) → IsAutomatonRefusal text found → refusal ≡ unread_for_size found
      → IsNoneOver names text refusal
  over_others : (a : Description) → IsAutomatonText text a → ¬ (a.propositions ≡ names)
      → refusal ≡ Task Unjudged → IsNoneOver names text refusal

-- why no circuit over these names is written of the text of a controller: it is not read, or else a symbol cannot have
-- one of the names, or else a limit is passed
abbrev pub IsUndrawnOver : (names : List (List ℕ)) → (controller : List ℕ) → Refusal → Type 0
IsUndrawnOver names controller refusal = IsNoneOver names controller refusal ⊎ IsEncodingRefusal names refusal
