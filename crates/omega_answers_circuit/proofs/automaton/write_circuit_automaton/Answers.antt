-- What is written or refused is that of the circuit that was read.
use Rattle.std.proofs.Common.{inr}
use Rattle.std.proofs.lemmas.Result.{IfErr-weaker, IfOk-weaker}
use Rattle.omega_answers.proofs.Refusals.{or_memory_of}
use Rattle.omega_answers_circuit.specs.WriteAutomaton.{IsCircuitAutomatonRefusal}
use Rattle.omega_answers_circuit.proofs.automaton.write_circuit_automaton.Goals as goal

pub returns-clause-answer : goal.returns-clause-answer
returns-clause-answer c =
    IfOk-weaker c.automaton_text.result _ _
    (λ output text. record {
      circuit = c.in_ok-circuit.circuit;
      read = c.in_ok-circuit.ensures.circuit;
      holds = text;
    })
    c.automaton_text.ensures.text

pub returns-clause-refused : goal.returns-clause-refused
returns-clause-refused c =
    IfErr-weaker c.automaton_text.result _ _
    (λ refusal is. or_memory_of (IsCircuitAutomatonRefusal c.args.text.now) refusal (inr (record {
      circuit = c.in_ok-circuit.circuit;
      read = c.in_ok-circuit.ensures.circuit;
      holds = is;
    })))
    c.automaton_text.ensures.refused
