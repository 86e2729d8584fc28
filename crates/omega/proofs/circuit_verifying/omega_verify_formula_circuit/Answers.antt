-- `omega_verify_formula_circuit`: the verdict and the text of the call that it hands on, or its refusal.
use Rattle.std.proofs.Common.{Bool, inl, inr, refl, subst}
use Rattle.omega_answers_circuit.specs.FormulaVerify.{IsFormulaCircuitAnswer, IsFormulaCircuitRefused}
use Rattle.omega.specs.Solving.{asks}
use Rattle.omega.specs.Synthesis.{lists_by}
use Rattle.omega.proofs.Given.{verdict_given}
use Rattle.omega.proofs.circuit_verifying.omega_verify_formula_circuit.Goals as goal

pub returns-in-Ok : goal.returns-in-Ok
returns-in-Ok c =
    let lists = lists_by (asks c.args.inputs) c.args.names.now in
    verdict_given (IsFormulaCircuitAnswer c.args.formula.now lists c.args.circuit.now (asks c.args.explain)) (IsFormulaCircuitRefused c.args.formula.now lists c.args.circuit.now)
    c.give_verdict.result c.args.verdict.now c.give_verdict.new.verdict c.args.out.now c.give_verdict.new.out c.in-Ok.exit c.in-Ok.output.items
    (subst (λ (b : Bool). IsFormulaCircuitAnswer c.args.formula.now lists c.args.circuit.now b c.in-Ok.exit c.in-Ok.output.items) c.asks-2.ensures
    (subst (λ (b : Bool). IsFormulaCircuitAnswer c.args.formula.now (lists_by b c.args.names.now) c.args.circuit.now c.asks-2.result c.in-Ok.exit c.in-Ok.output.items)
    c.asks.ensures c.in-Ok.ensures.answer))
    (inl refl) c.give_verdict.ensures

pub returns-in-Err : goal.returns-in-Err
returns-in-Err c =
    inr (
      refl,
      record {
        refused = c.in-Err.refused;
        refuses_so = subst (λ (b : Bool). IsFormulaCircuitRefused c.args.formula.now (lists_by b c.args.names.now) c.args.circuit.now c.in-Err.refused)
            c.asks.ensures c.in-Err.ensures.refused;
        outcome_is = c.of.ensures;
        kept = refl;
      },
    )
