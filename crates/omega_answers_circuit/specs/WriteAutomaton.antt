-- The answer of `automaton` for the text of a circuit: the canonical text of an automaton that accepts exactly the
-- words of the circuit.
use Rattle.std.specs.Prelude.{◌≡◌, List, ℕ}
use Rattle.omega_answers_circuit.specs.Circuit.{IsRefusalOfCircuit, OfCircuit}
use Rattle.omega_canon.specs.Canonical.{canonical_automaton}
use Rattle.omega_circuit.specs.Circuit.{CircuitValue}
use Rattle.omega_circuit_automaton.specs.CircuitAutomaton.{AcceptsWordsOf, AnswersEachOnce}
use Rattle.omega_circuit_automaton.specs.CircuitAutomaton.{HasCircuitHeader, HasValuations}
use Rattle.omega_circuit_automaton.specs.Names.{AreFit, IsAutomatonRefusal, proposition_names}
use Rattle.omega_hoa_automaton.specs.Automaton.{Description}
use Rattle.omega_hoa_edges.specs.Determinism.{IsDeterministic}
use Rattle.omega_text.specs.declared.refusal.Refusal.{Refusal}

-- the canonical text of an automaton that accepts exactly the words of a circuit: deterministic, with one edge for each
-- letter of the inputs in each state, and with the valuations of the latches as its states
pub record IsAutomatonTextOf (c : CircuitValue) (output : List ℕ) : Type 0 where
  pub automaton : Description
  pub words : AcceptsWordsOf c automaton
  pub answers : AnswersEachOnce c automaton
  pub deterministic : IsDeterministic automaton
  pub states : HasValuations c automaton
  pub header : HasCircuitHeader c automaton
  pub names : AreFit (proposition_names c)
  pub written : output ≡ canonical_automaton automaton

-- the answer of `automaton`: the text is that of a circuit, and the canonical text of its automaton is written
abbrev pub IsCircuitAutomatonAnswer : (text output : List ℕ) → Type 0
IsCircuitAutomatonAnswer text output = OfCircuit (λ circuit. IsAutomatonTextOf circuit output) text

-- the refusal of `automaton`: that of the text, or else that of the circuit's automaton
abbrev pub IsCircuitAutomatonRefusal : (text : List ℕ) → Refusal → Type 0
IsCircuitAutomatonRefusal = IsRefusalOfCircuit IsAutomatonRefusal
