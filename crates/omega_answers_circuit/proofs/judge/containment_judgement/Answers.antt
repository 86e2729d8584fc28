-- what containment says of the automaton it says of the circuit
use Rattle.omega_answers_circuit.proofs.judge.containment_judgement.Goals as goal

pub returns-in-Ok-clause-right : goal.returns-in-Ok-clause-right
returns-in-Ok-clause-right c = λ circuit of_circuit fit.
    c.judgement_of_containment.ensures c.args.automaton.now c.args.specification.now circuit of_circuit fit c.in-Ok.ensures.right
