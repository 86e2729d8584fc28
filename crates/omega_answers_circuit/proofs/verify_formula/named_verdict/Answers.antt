-- the lists do not part the names, or the circuit is judged for the outputs
use Rattle.std.proofs.Common.{ℕ, List, subst, ◌∙◌}
use Rattle.std.proofs.lemmas.Result.{IfErr-weaker, IfOk-weaker}
use Rattle.omega_answers_circuit.specs.FormulaVerify.{IsFormulaCircuitVerdict, RefusesFormulaCircuit}
use Rattle.omega_answers_synth.specs.Outputs.{lists_of}
use Rattle.omega_answers_circuit.proofs.JudgeLists.{lists_refuse_file, outputs_refuse_texts}
use Rattle.omega_answers_circuit.proofs.verify_formula.named_verdict.Goals as goal

pub returns-in-Ok-clause-verdict : goal.returns-in-Ok-clause-verdict
returns-in-Ok-clause-verdict c =
    let listed = c.in-Ok.ensures.outputs in
    IfOk-weaker c.formula_verdict.result _ _
    (λ made verdict. record {
      parted = listed.parted;
      holds = subst (λ (outs : List (List ℕ)). IsFormulaCircuitVerdict c.args.formula.now outs c.args.circuit.now c.args.explain made.0 made.1.items)
          (c.as_slice.ensures.value ∙ listed.are) verdict;
    })
    c.formula_verdict.ensures.verdict

pub returns-in-Ok-clause-refused : goal.returns-in-Ok-clause-refused
returns-in-Ok-clause-refused c =
    IfErr-weaker c.formula_verdict.result _ _
    (λ refused is.
    outputs_refuse_texts c.args.formula.now (lists_of c.args.names) (λ outs. RefusesFormulaCircuit c.args.formula.now outs c.args.circuit.now)
    c.in-Ok.outs.items c.in-Ok.ensures.outputs c.as_slice.result.now c.as_slice.ensures.value refused is)
    c.formula_verdict.ensures.refused

pub returns-in-Err-clause-refused : goal.returns-in-Err-clause-refused
returns-in-Err-clause-refused c =
    lists_refuse_file c.args.formula.now (lists_of c.args.names) (λ outs. RefusesFormulaCircuit c.args.formula.now outs c.args.circuit.now)
    c.in-Err.unparted c.in-Err.ensures.refused c.of.result c.of.ensures
