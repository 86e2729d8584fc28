-- The answer of `realize --aiger` for the text of one automaton: a circuit that realizes it, or that there is none.
use Rattle.std.specs.Prelude.{◌≡◌, false, List, ℕ, codes}
use Rattle.omega_answers.specs.OneAutomaton.{OfAutomaton}
use Rattle.omega_answers_circuit.specs.ControllerCircuit.{IsCircuitTextOver, IsUndrawnOver}
use Rattle.omega_answers_circuit.specs.OwnCircuit.{IsUnjudged}
use Rattle.omega_answers_circuit.specs.Verify.{IsCircuitAnswer, IsCircuitRefused}
use Rattle.omega_answers_circuit.specs.declared.circuit_form.CircuitForm.{CircuitForm}
use Rattle.omega_answers_synth.specs.Refusing.{IsRealizeRefusal}
use Rattle.omega_answers_synth.specs.Winner.{IsWinnerAnswer}
use Rattle.omega_hoa_automaton.specs.Automaton.{Description}
use Rattle.omega_io.specs.declared.exit.Exit.{Exit}
use Rattle.omega_io.specs.declared.exit.Exit.TheVariants.{Done, No}
use Rattle.omega_solve.specs.Limits.{most_lifts}
use Rattle.omega_synth_controllers.specs.Controllable.{IsStated}
use Rattle.omega_text.specs.declared.refusal.Refusal.{Refusal}

-- the text of a circuit over the propositions of an automaton, of which the system controls those that its item
-- `controllable-AP:` lists
pub record IsCircuitTextFor (form : CircuitForm) (a : Description) (output : List ℕ) : Type 0 where
  pub controlled : List ℕ
  pub stated : IsStated a controlled
  pub circuit : IsCircuitTextOver form a.propositions controlled output

-- so it is of the automaton of a text that has a controller
pub record IsCircuitOfController (form : CircuitForm) (text output : List ℕ) : Type 0 where
  pub controller : List ℕ
  pub won : IsWinnerAnswer text Done controller
  pub circuit : OfAutomaton (λ a. IsCircuitTextFor form a output) text

-- and `verify --specification` says `yes` to it
pub record IsRealizingCircuit (form : CircuitForm) (text output : List ℕ) : Type 0 where
  pub made : IsCircuitOfController form text output
  pub reply : List ℕ
  pub judged : IsCircuitAnswer text output false Done reply

-- the automaton of the text has a counter-strategy, and a line says so
pub record IsToldUnrealizable (text output : List ℕ) : Type 0 where
  pub strategy : List ℕ
  pub lost : IsWinnerAnswer text No strategy
  pub line : output ≡ codes "unrealizable\n"

-- the answer of `realize --aiger`: a circuit, or, with an exit of its own, the line
abbrev pub IsWinningCircuitAnswer : CircuitForm → (text : List ℕ) → Exit → (output : List ℕ) → Type 0
IsWinningCircuitAnswer form text Done output = IsRealizingCircuit form text output
IsWinningCircuitAnswer form text No output = IsToldUnrealizable text output

-- a controller of a text was found, and it is not read, or no circuit of it is written
pub record IsUndrawn (text : List ℕ) (refusal : Refusal) : Type 0 where
  pub controller : List ℕ
  pub won : IsWinnerAnswer text Done controller
  pub undrawn : OfAutomaton (λ a. IsUndrawnOver a.propositions controller refusal) text

-- why no answer is given: it is not decided who wins, or no circuit is written, or it is not judged
pub data IsWinningCircuitRefusal (form : CircuitForm) (text : List ℕ) (refusal : Refusal) : Type 0 where
  not_realized : IsRealizeRefusal text most_lifts refusal → IsWinningCircuitRefusal form text refusal
  undrawn : IsUndrawn text refusal → IsWinningCircuitRefusal form text refusal
  unjudged : (circuit : List ℕ) → IsCircuitOfController form text circuit
      → IsUnjudged (IsCircuitAnswer text circuit false) (IsCircuitRefused text circuit) refusal
      → IsWinningCircuitRefusal form text refusal
