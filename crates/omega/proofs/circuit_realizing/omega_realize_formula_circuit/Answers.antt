-- `omega_realize_formula_circuit`: the verdict and the text of the call that it hands on, or its refusal.
use Rattle.std.proofs.Common.{Bool, inr, refl, subst}
use Rattle.omega_answers_circuit.specs.FormulaCircuit.{IsFormulaCircuitRefusal, IsFormulaCircuitWritten}
use Rattle.omega_answers_circuit.specs.declared.circuit_form.CircuitForm.{CircuitForm}
use Rattle.omega_text.specs.Cases.{or_memory}
use Rattle.omega.specs.Circuits.{form_asked}
use Rattle.omega.specs.Giving.{IsOneRefused}
use Rattle.omega.specs.Solving.{asks}
use Rattle.omega.specs.Synthesis.{lists_by}
use Rattle.omega.specs.TextOutcome.{about_input}
use Rattle.omega.proofs.Given.{one_refused, verdict_given}
use Rattle.omega.proofs.circuit_realizing.omega_realize_formula_circuit.Goals as goal

pub returns-in-Ok : goal.returns-in-Ok
returns-in-Ok c =
    let form = form_asked c.args.binary in
    let lists = lists_by (asks c.args.inputs) c.args.names.now in
    verdict_given (IsFormulaCircuitWritten form c.args.formula.now lists) (IsOneRefused (IsFormulaCircuitRefusal form c.args.formula.now lists))
    c.give_verdict.result c.args.verdict.now c.give_verdict.new.verdict c.args.out.now c.give_verdict.new.out c.in-Ok.exit c.in-Ok.output.items
    (subst (λ (f : CircuitForm). IsFormulaCircuitWritten f c.args.formula.now lists c.in-Ok.exit c.in-Ok.output.items) c.form_asked.ensures
    (subst (λ (b : Bool). IsFormulaCircuitWritten c.form_asked.result c.args.formula.now (lists_by b c.args.names.now) c.in-Ok.exit c.in-Ok.output.items)
    c.asks.ensures c.in-Ok.ensures.answer))
    refl c.give_verdict.ensures

pub returns-in-Err : goal.returns-in-Err
returns-in-Err c =
    let form = form_asked c.args.binary in
    let lists = lists_by (asks c.args.inputs) c.args.names.now in
    inr (
      refl,
      record {
        refused = about_input c.in-Err.refusal;
        refuses_so = one_refused (IsFormulaCircuitRefusal form c.args.formula.now lists) c.in-Err.refusal
            (subst (λ (f : CircuitForm). or_memory (IsFormulaCircuitRefusal f c.args.formula.now lists) c.in-Err.refusal) c.form_asked.ensures
            (subst (λ (b : Bool). or_memory (IsFormulaCircuitRefusal c.form_asked.result c.args.formula.now (lists_by b c.args.names.now)) c.in-Err.refusal)
            c.asks.ensures c.in-Err.ensures.refused));
        outcome_is = c.of_one.ensures;
        kept = refl;
      },
    )
