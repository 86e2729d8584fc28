-- What `verify --specification` refuses of what `realize --aiger` writes of the same specification.
use Rattle.std.specs.Prelude.{◌≡◌, ◌⊎◌, ℕ, List, None}
use Rattle.omega_answers_circuit.specs.Verify.{IsCircuitRefused}
use Rattle.omega_answers_circuit.specs.WinningCircuit.{IsWinningCircuitAnswer}
use Rattle.omega_answers_circuit.specs.declared.circuit_form.CircuitForm.{CircuitForm}
use Rattle.omega_io.specs.declared.exit.Exit.TheVariants.{Done}
use Rattle.omega_io.specs.declared.refused.Refused.{Refused}
use Rattle.omega_text.specs.declared.refusal.Refusal.TheVariants.{Task}
use Rattle.omega_text.specs.declared.refusal.task.TaskFault.TheVariants.{TooLarge}

-- no refusal is about one of the two texts, unless the automaton of the circuit passes a limit: memory can be wanting,
-- or room within the limits of the judge
abbrev pub WrittenCircuitsAreNotAtFault : Type 0
WrittenCircuitsAreNotAtFault = (form : CircuitForm) (specification circuit : List ℕ) (refused : Refused)
    → IsWinningCircuitAnswer form specification Done circuit → IsCircuitRefused specification circuit refused
    → (refused.text ≡ None) ⊎ (refused.refusal ≡ Task TooLarge)
