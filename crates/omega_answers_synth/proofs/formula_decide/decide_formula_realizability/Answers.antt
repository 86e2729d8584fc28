-- the line of the exit with which a winner is written
use Rattle.std.proofs.Common.{◌∙◌, ap, subst, sym}
use Rattle.std.proofs.lemmas.Result.{IfErr-weaker, IfOk-weaker}
use Rattle.omega_io.specs.declared.exit.Exit.{Exit}
use Rattle.omega_answers_synth.specs.FormulaWinner.{IsFormulaWinnerAnswer, verdict_line}
use Rattle.omega_answers_synth.specs.Outputs.{lists_of}
use Rattle.omega_answers_synth.proofs.formula_decide.decide_formula_realizability.Goals as goal

pub returns-clause-refused : goal.returns-clause-refused
returns-clause-refused c = IfErr-weaker c.verdict_reply.result _ _ (λ refusal e. rw e tt) c.verdict_reply.ensures.memory

pub returns-clause-answer : goal.returns-clause-answer
returns-clause-answer c =
    IfOk-weaker c.verdict_reply.result _ _
    (λ made (same, line). record {
      winner = c.in_ok-winner.winner.1.items;
      found = subst (λ (exit : Exit). IsFormulaWinnerAnswer c.args.formula.now (lists_of c.args.names) exit c.in_ok-winner.winner.1.items) (sym same)
          c.in_ok-winner.ensures.answer;
      line = line ∙ ap verdict_line (sym same);
    })
    c.verdict_reply.ensures.reply
