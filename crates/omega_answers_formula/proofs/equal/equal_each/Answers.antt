-- the formulas are read and answered for the automaton, or one of their texts is refused
use Rattle.std.proofs.lemmas.Result.{IfOk-weaker}
use Rattle.omega_hoa.specs.Alone.{IsAutomatonRefusal, IsAutomatonText}
use Rattle.omega_ltl_equality.specs.Refusing.{IsFormulaEqualityRefusal}
use Rattle.omega_answers_formula.specs.Formula.{IsFormulaOfText}
use Rattle.omega_answers_formula.specs.EqualFormula.{IsFormulaEqualityVerdict, IsEqualFormulaAnswer}
use Rattle.omega_answers_formula.proofs.InTurn.{answered_texts, refused_reading}
use Rattle.omega_answers_formula.proofs.equal.equal_each.Goals as goal

pub returns-in-Ok-clause-answers : goal.returns-in-Ok-clause-answers
returns-in-Ok-clause-answers c =
    IfOk-weaker c.answers_for_text.result _ _
    (λ made (a, of_text, answered, unmentioned). answered_texts IsFormulaOfText (λ formula. IsFormulaEqualityVerdict formula a c.args.explain)
    (λ formula. IsEqualFormulaAnswer formula c.args.text.now c.args.explain)
    (λ text formula exit output reads verdict. record { file = formula; file_read = reads; input = a; input_read = of_text; holds = verdict })
    c.args.formulas.now c.in-Ok.read.items made.exit made.text.items c.in-Ok.ensures.read (rw c.as_slice.ensures.value at answered))
    c.answers_for_text.ensures.answers

pub returns-in-Ok-clause-unmentioned : goal.returns-in-Ok-clause-unmentioned
returns-in-Ok-clause-unmentioned c =
    IfOk-weaker c.answers_for_text.result _ _
    (λ made (a, of_text, answered, unmentioned). record {
      file = c.in-Ok.read.items;
      file_read = c.in-Ok.ensures.read;
      input = a;
      input_read = of_text;
      holds = rw c.as_slice.ensures.value at unmentioned;
    })
    c.answers_for_text.ensures.answers

pub returns-in-Ok-clause-refused : goal.returns-in-Ok-clause-refused
returns-in-Ok-clause-refused c =
    c.answers_for_text.ensures.refused c.args.formulas.now (rw c.as_slice.ensures.value c.in-Ok.ensures.read)

pub returns-in-Err-clause-refused : goal.returns-in-Err-clause-refused
returns-in-Err-clause-refused c =
    refused_reading (IsAutomatonText c.args.text.now) (IsAutomatonRefusal c.args.text.now) (λ a formula. IsFormulaEqualityVerdict formula a c.args.explain)
    IsFormulaEqualityRefusal c.args.formulas.now c.in-Err.refused c.in-Err.ensures.refused
