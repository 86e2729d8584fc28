-- each word of the circuit satisfies the formula, or some does not
use Rattle.std.proofs.Common.{subst}
use Rattle.omega_ltl_satisfaction.specs.Satisfaction.{IsSatisfaction}
use Rattle.omega_answers_circuit.proofs.JudgedCircuits.{not_satisfied}
use Rattle.omega_answers_circuit.proofs.judge.judgement_of_satisfaction.Goals as goal

pub returns-in-NotSatisfied : goal.returns-in-NotSatisfied
returns-in-NotSatisfied c = λ a formula circuit of_circuit fit is.
    not_satisfied circuit a of_circuit fit formula c.in-NotSatisfied.example (subst (IsSatisfaction a formula) c.in-NotSatisfied.is is)
