-- the conjunction of both formulas
use Rattle.std.proofs.Common.{◌≡◌, ◌<◌, ap₂, subst, ◌∙◌}
use Rattle.std.proofs.lemmas.Result.{IfErr-weaker, IfOk-weaker}
use Rattle.omega_hoa_expression.specs.Limits.{most_depth}
use Rattle.omega_hoa_acceptance.specs.Acceptance.{acc_depth}
use Rattle.omega_hoa_edges.proofs.Refusals.{large_weaker}
use Rattle.omega_lang_product.specs.Acceptance.{both_formulas, conjoined_acceptance, moved_after}
use Rattle.omega_lang_product.proofs.acceptance.conjunction.Goals as goal

pub returns-clause-formula : goal.returns-clause-formula
returns-clause-formula c =
    let first : c.in_ok-first.first ≡ c.args.one.now.acceptance = c.in_ok-first.ensures.ok ∙ c.acceptance.ensures in
    let second : c.in_ok-second.second ≡ moved_after c.args.one.now.sets c.args.other.now.acceptance =
    c.in_ok-second.ensures.ok ∙ ap₂ moved_after c.set_count.ensures c.acceptance-2.ensures in
    IfOk-weaker c.both_formulas.result _ _ (λ formula is. is ∙ ap₂ both_formulas first second) c.both_formulas.ensures.ok

pub returns-clause-err : goal.returns-clause-err
returns-clause-err c =
    let first : c.in_ok-first.first ≡ c.args.one.now.acceptance = c.in_ok-first.ensures.ok ∙ c.acceptance.ensures in
    let second : c.in_ok-second.second ≡ moved_after c.args.one.now.sets c.args.other.now.acceptance =
    c.in_ok-second.ensures.ok ∙ ap₂ moved_after c.set_count.ensures c.acceptance-2.ensures in
    IfErr-weaker c.both_formulas.result _ _
    (large_weaker (most_depth < acc_depth (both_formulas c.in_ok-first.first c.in_ok-second.second)) (most_depth < acc_depth (conjoined_acceptance c.args.one.now c.args.other.now))
    (λ deep. subst (λ tree. most_depth < acc_depth tree) (ap₂ both_formulas first second) deep))
    c.both_formulas.ensures.err
