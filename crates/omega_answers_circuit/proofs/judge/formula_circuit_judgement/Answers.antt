-- the circuit is refused, or satisfaction is
use Rattle.std.proofs.Common.{ℕ, List, subst}
use Rattle.omega_answers_circuit.specs.Sides.{IsSided, IsSidesRefusal}
use Rattle.omega_answers_circuit.proofs.JudgeReported.{formula_sides_reported, satisfaction_reported}
use Rattle.omega_answers_circuit.proofs.judge.formula_circuit_judgement.Goals as goal

pub returns-in-Ok-clause-refused : goal.returns-in-Ok-clause-refused
returns-in-Ok-clause-refused c =
    satisfaction_reported c.args.formula.now c.args.outs.now c.args.circuit.now
    (subst (λ (names : List (List ℕ)). IsSided names c.args.outs.now c.args.circuit.now) c.names.ensures c.in-Ok.ensures.sided)
    c.in-Ok.automaton c.in-Ok.ensures.automaton c.in-Err-satisfaction_judgement.refusal c.in-Err-satisfaction_judgement.ensures.refused
    c.from.result c.from.ensures

pub returns-clause-refused : goal.returns-clause-refused
returns-clause-refused c =
    formula_sides_reported c.args.formula.now c.args.outs.now c.args.circuit.now c.in-Err.refusal
    (subst (λ (names : List (List ℕ)). IsSidesRefusal names c.args.outs.now c.args.circuit.now c.in-Err.refusal) c.names.ensures c.in-Err.ensures.refused)
    c.of.result c.of.ensures
