-- `answers_for_items`: one more item is answered, or it is the first with which a formula is refused.
use Rattle.std.proofs.Common.{arith}
use Rattle.omega_answers_formula.specs.InTurn.{AreAnswered}
use Rattle.omega_answers_formula.specs.SatisfiesStream.{AnswersFormula}
use Rattle.omega_answers_formula.proofs.InTurn.{answered_next}
use Rattle.omega_answers_formula.proofs.Items.{refused_at}
use Rattle.omega_answers_formula.proofs.satisfies_stream.answers_for_items.Goals as goal

pub loop-item-preserved : goal.loop-item-preserved
loop-item-preserved c =
    answered_next (λ item. AreAnswered (AnswersFormula c.args.explain item) c.args.formulas.now) c.args.items.now c.loop-item.item-index
    c.item-item.result c.loop-item.exit c.loop-item.text.items c.append_answers.new.out.items c.in-Ok.own c.later_exit-exit.result
    (omega (arith, c.loop-item-test.true)) c.item-item.is c.loop-item.invariant c.in-Ok.ensures.answers c.later_exit-exit.ensures

pub returns-in-Err-clause-refused : goal.returns-in-Err-clause-refused
returns-in-Err-clause-refused c =
    refused_at c.args.explain c.args.formulas.now c.args.items.now c.loop-item.item-index c.item-item.result c.loop-item.exit
    c.loop-item.text.items (omega (arith, c.loop-item-test.true)) c.item-item.is c.loop-item.invariant c.in-Err.refused c.in-Err.ensures.refused
