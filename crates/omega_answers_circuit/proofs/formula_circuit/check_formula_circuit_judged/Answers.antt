-- the judge says `yes`, or `no`, or refuses
use Rattle.std.proofs.Common.{false, refl, subst}
use Rattle.omega_answers_circuit.specs.OwnCircuit.{answered_no, not_answered}
use Rattle.omega_answers_circuit.specs.FormulaVerify.{IsFormulaCircuitAnswer}
use Rattle.omega_answers_synth.specs.Outputs.{lists_of}
use Rattle.omega_io.specs.declared.exit.Exit.{Exit}
use Rattle.omega_answers_circuit.proofs.formula_circuit.check_formula_circuit_judged.Goals as goal

pub returns-in-Ok-Done-default-clause-judged : goal.returns-in-Ok-Done-default-clause-judged
returns-in-Ok-Done-default-clause-judged c = (
  c.in-Ok-Done-default.field-0-1.items,
  subst (λ (exit : Exit). IsFormulaCircuitAnswer c.args.formula.now (lists_of c.args.names) c.args.circuit.now false exit c.in-Ok-Done-default.field-0-1.items) c.in-Ok-Done-default.field-0-0-is
      c.in-Ok-Done-default.ensures.answer,
)

pub returns-in-Ok-No-default-clause-refused : goal.returns-in-Ok-No-default-clause-refused
returns-in-Ok-No-default-clause-refused c =
    answered_no c.in-Ok-No-default.field-0-1.items
    (subst (λ (exit : Exit). IsFormulaCircuitAnswer c.args.formula.now (lists_of c.args.names) c.args.circuit.now false exit c.in-Ok-No-default.field-0-1.items) c.in-Ok-No-default.field-0-0-is
    c.in-Ok-No-default.ensures.answer) refl

pub returns-clause-refused : goal.returns-clause-refused
returns-clause-refused c = not_answered c.in-Err.refused c.in-Err.ensures.refused c.unjudged_refusal.ensures
