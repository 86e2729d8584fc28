-- The circuit of the text is that of the answer.
use Rattle.std.proofs.Common.{subst}
use Rattle.omega_answers_circuit.specs.WriteAutomaton.{IsAutomatonTextOf}
use Rattle.omega_circuit.specs.Circuit.{CircuitValue}
use Rattle.omega_answers_circuit.proofs.laws.circuit_automata_are_of_texts.Goals as goal

pub returns : goal.returns
returns laws text output c read answer =
    subst (λ (a : CircuitValue). IsAutomatonTextOf a output)
    (laws.circuits_of_texts_are_one.ensures text answer.circuit c answer.read read) answer.holds
