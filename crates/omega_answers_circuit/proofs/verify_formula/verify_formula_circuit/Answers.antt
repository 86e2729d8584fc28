-- the formula is read and the circuit is judged, or the formula is refused
use Rattle.std.proofs.Common.{inl}
use Rattle.std.proofs.lemmas.Result.{IfErr-weaker, IfOk-weaker}
use Rattle.omega_aiger.specs.Text.{IsCircuitTextRefusal}
use Rattle.omega_answers.proofs.About.{of_read}
use Rattle.omega_answers_formula.specs.Formula.{IsFormulaOfText}
use Rattle.omega_io.specs.declared.refused.Which.TheVariants.{File}
use Rattle.omega_ltl_formula.specs.Table.{NumberedFormula}
use Rattle.omega_ltl_text.specs.Text.{IsFormulaTextRefusal}
use Rattle.omega_answers_circuit.proofs.verify_formula.verify_formula_circuit.Goals as goal

pub returns-in-Ok-clause-answer : goal.returns-in-Ok-clause-answer
returns-in-Ok-clause-answer c =
    IfOk-weaker c.verdict_on_text.result _ _
    (λ made (circuit, of_text, verdict). record {
      file = c.in-Ok.read;
      file_read = record { read = c.in-Ok.ensures.formula; names = c.in-Ok.ensures.names };
      input = circuit;
      input_read = of_text;
      holds = verdict;
    })
    c.verdict_on_text.ensures.verdict

pub returns-in-Ok-clause-refused : goal.returns-in-Ok-clause-refused
returns-in-Ok-clause-refused c =
    IfErr-weaker c.verdict_on_text.result _ _
    (λ refused then. then c.args.formula.now (record { read = c.in-Ok.ensures.formula; names = c.in-Ok.ensures.names }))
    c.verdict_on_text.ensures.refused

pub returns-in-Err-clause-refused : goal.returns-in-Err-clause-refused
returns-in-Err-clause-refused c =
    inl (of_read (IsFormulaTextRefusal c.args.formula.now)
    (λ refusal. (file : NumberedFormula) × IsFormulaOfText c.args.formula.now file × IsCircuitTextRefusal c.args.circuit.now refusal)
    File (IsFormulaTextRefusal c.args.formula.now) (λ refusal is. is) (λ failed. failed) c.in-Err.refusal c.in-Err.ensures.refused c.of.result c.of.ensures)
