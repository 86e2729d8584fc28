-- `answers_in_turn`: one more formula is answered, or it is the first that is refused.
use Rattle.std.proofs.Common.{◌+◌, take, arith}
use Rattle.omega_answers_formula.specs.InTurn.{IsFirstRefused}
use Rattle.omega_answers_formula.specs.declared.refused_formulas.About.TheVariants.{Question}
use Rattle.omega_answers_formula.proofs.InTurn.{answered_next, numbered_at, refused_of}
use Rattle.omega_answers_formula.proofs.in_turn.answers_in_turn.Goals as goal

pub loop-place-preserved : goal.loop-place-preserved
loop-place-preserved g c =
    answered_next (g.Q.FormulaQuestion.answers c.args.question.now) c.args.formulas.now c.loop-place.place c.index-formulas-place.result
    c.loop-place.exit c.loop-place.text.items c.append_answer.new.out.items c.in-Ok.own c.later_exit-exit.result
    (omega (arith, c.loop-place-test.true)) c.index-formulas-place.is c.loop-place.invariant c.in-Ok.ensures.answer c.later_exit-exit.ensures

pub returns-in-Err-clause-refused : goal.returns-in-Err-clause-refused
returns-in-Err-clause-refused g c =
    let answers = g.Q.FormulaQuestion.answers c.args.question.now in
    let refuses = g.Q.FormulaQuestion.refuses c.args.question.now in
    refused_of (λ number refusal. ⊥) (IsFirstRefused answers refuses c.args.formulas.now) (λ refusal. ⊥) (Question (c.loop-place.place + 1))
    (refuses c.index-formulas-place.result)
    (λ refusal is. record {
      before = take c.loop-place.place c.args.formulas.now;
      formula = c.index-formulas-place.result;
      numbered =
          numbered_at c.args.formulas.now c.loop-place.place c.index-formulas-place.result (omega (arith, c.loop-place-test.true)) c.index-formulas-place.is;
      exit = c.loop-place.exit;
      output = c.loop-place.text.items;
      answered = c.loop-place.invariant;
      refused = is;
    })
    c.in-Err.refusal c.in-Err.ensures.refused c.of.result c.of.ensures
