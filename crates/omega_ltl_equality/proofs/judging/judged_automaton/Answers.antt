-- what the answer says of the automaton, or a refusal in which a choice is a fault
use Rattle.std.proofs.Common.{sym, subst}
use Rattle.std.proofs.lemmas.Result.{IfErr-weaker, IfOk-weaker}
use Rattle.omega_ltl_equality.specs.Judging.{IsJudgingRefusal}
use Rattle.omega_ltl_equality.proofs.Refused.{judging_refused}
use Rattle.omega_ltl_equality.proofs.judging.judged_automaton.Goals as goal

pub returns-in-Ok-clause-judged : goal.returns-in-Ok-clause-judged
returns-in-Ok-clause-judged c =
    IfOk-weaker c.judged_by.result _ _
    (λ judged is. is c.args.formula.now c.in-Ok.ensures.right c.in-Ok.ensures.given) c.judged_by.ensures.judged

pub returns-in-Ok-clause-refused : goal.returns-in-Ok-clause-refused
returns-in-Ok-clause-refused c =
    IfErr-weaker c.judged_by.result _ _ (λ refusal is. is c.args.formula.now c.in-Ok.ensures.right) c.judged_by.ensures.refused

pub returns-in-Err-clause-refused : goal.returns-in-Err-clause-refused
returns-in-Err-clause-refused c =
    subst (IsJudgingRefusal c.args.automaton c.args.formula.now) (sym c.unjudged_for_choice.ensures)
    (judging_refused c.args.automaton c.args.formula.now c.in-Err.refusal c.in-Err.ensures.refused)
