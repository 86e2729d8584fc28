-- a controller or a counter-strategy, by the exit
use Rattle.std.proofs.Common.{sym, subst}
use Rattle.std.proofs.lemmas.Result.{IfErr-weaker, on_ok_weaker}
use Rattle.omega_io.specs.declared.exit.Exit.{Exit}
use Rattle.omega_answers_synth.specs.FormulaRefusing.{IsUnjudgedWinner}
use Rattle.omega_answers_synth.specs.FormulaWinner.{IsJudgedWinner}
use Rattle.omega_answers_synth.proofs.formula_judged.check_winner.Goals as goal

pub returns-in-Done-clause-judged : goal.returns-in-Done-clause-judged
returns-in-Done-clause-judged c =
    on_ok_weaker c.check_controller.result (λ judged. subst (λ (exit : Exit). IsJudgedWinner c.args.formula.now c.args.outs.now exit c.args.winner.now) (sym c.in-Done.is) judged)
    c.check_controller.ensures.judged

pub returns-in-Done-clause-refused : goal.returns-in-Done-clause-refused
returns-in-Done-clause-refused c =
    IfErr-weaker c.check_controller.result _ _
    (λ refusal not. subst (λ (exit : Exit). IsUnjudgedWinner c.args.formula.now c.args.outs.now exit c.args.winner.now refusal) (sym c.in-Done.is) not)
    c.check_controller.ensures.refused

pub returns-in-No-clause-judged : goal.returns-in-No-clause-judged
returns-in-No-clause-judged c =
    on_ok_weaker c.check_counter_strategy.result
    (λ judged. subst (λ (exit : Exit). IsJudgedWinner c.args.formula.now c.args.outs.now exit c.args.winner.now) (sym c.in-No.is) judged)
    c.check_counter_strategy.ensures.judged

pub returns-in-No-clause-refused : goal.returns-in-No-clause-refused
returns-in-No-clause-refused c =
    IfErr-weaker c.check_counter_strategy.result _ _
    (λ refusal not. subst (λ (exit : Exit). IsUnjudgedWinner c.args.formula.now c.args.outs.now exit c.args.winner.now refusal) (sym c.in-No.is) not)
    c.check_counter_strategy.ensures.refused
