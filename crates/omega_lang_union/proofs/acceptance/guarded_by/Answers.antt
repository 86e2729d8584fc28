-- the guard and the formula
use Rattle.std.proofs.Common.{◌<◌, false, ap, subst, ◌∙◌}
use Rattle.std.proofs.lemmas.Result.{IfErr-weaker, IfOk-weaker}
use Rattle.omega_hoa_expression.specs.Limits.{most_depth}
use Rattle.omega_hoa_acceptance.specs.Acceptance.{acc_depth, conjunction, inf}
use Rattle.omega_hoa_edges.proofs.Refusals.{large_weaker}
use Rattle.omega_lang_union.proofs.acceptance.guarded_by.Goals as goal

pub returns-clause-formula : goal.returns-clause-formula
returns-clause-formula c =
    IfOk-weaker c.conjoined_formula.result _ _ (λ formula is. is ∙ ap (λ guard. conjunction guard c.args.formula) c.in_ok-occurs.ensures.ok) c.conjoined_formula.ensures.ok

pub returns-clause-err : goal.returns-clause-err
returns-clause-err c =
    IfErr-weaker c.conjoined_formula.result _ _
    (λ refusal is. large_weaker (most_depth < acc_depth (conjunction c.in_ok-occurs.occurs c.args.formula)) (most_depth < acc_depth (conjunction (inf false c.args.set) c.args.formula))
    (λ deep. subst (λ guard. most_depth < acc_depth (conjunction guard c.args.formula)) c.in_ok-occurs.ensures.ok deep) refusal is)
    c.conjoined_formula.ensures.err
