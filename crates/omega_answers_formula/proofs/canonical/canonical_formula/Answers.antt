-- what is written is the text of the formula that was read, or memory is wanting
use Rattle.std.proofs.lemmas.Result.{IfErr-weaker, IfOk-weaker}
use Rattle.omega_answers_formula.proofs.canonical.canonical_formula.Goals as goal

pub returns-in-Ok-clause-answer : goal.returns-in-Ok-clause-answer
returns-in-Ok-clause-answer c =
    IfOk-weaker c.write_formula.result _ _
    (λ output text. record {
      formula = c.in-Ok.formula;
      read = record { read = c.in-Ok.ensures.formula; names = c.in-Ok.ensures.names };
      holds = text;
    })
    c.write_formula.ensures.text

pub returns-in-Ok-clause-refused : goal.returns-in-Ok-clause-refused
returns-in-Ok-clause-refused c = IfErr-weaker c.write_formula.result _ _ (λ refusal e. rw e tt) c.write_formula.ensures.memory
