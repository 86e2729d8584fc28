-- `append_answer`: the formula is refused, or memory is.
use Rattle.omega_answers.proofs.Refusals.{or_memory_of}
use Rattle.omega_answers_formula.proofs.in_turn.append_answer.Goals as goal

pub returns-in-Err-clause-refused : goal.returns-in-Err-clause-refused
returns-in-Err-clause-refused g c =
    or_memory_of (g.Q.FormulaQuestion.refuses c.args.question.now c.args.formula.now) c.in-Err.refusal c.in-Err.ensures.refused
