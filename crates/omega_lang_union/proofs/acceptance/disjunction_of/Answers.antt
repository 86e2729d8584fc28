-- both with their guards, which are too deep if one is
use Rattle.std.proofs.Common.{◌≡◌, ◌<◌, ap, ap₂, subst, ◌∙◌}
use Rattle.std.proofs.lemmas.Result.{IfErr-weaker, IfOk-weaker}
use Rattle.omega_hoa_expression.specs.Limits.{most_depth}
use Rattle.omega_hoa_acceptance.specs.Acceptance.{acc_depth, disjunction}
use Rattle.omega_hoa_edges.proofs.Refusals.{large_weaker, passed_on}
use Rattle.omega_lang_product.specs.Acceptance.{moved_after}
use Rattle.omega_lang_union.specs.Sharing.{guarded}
use Rattle.omega_lang_union.specs.private.Operands.{either_guarded}
use Rattle.omega_lang_union.proofs.Deep.{deep_first, deep_second}
use Rattle.omega_lang_union.proofs.acceptance.disjunction_of.Goals as goal

pub returns-in_err-first-clause-err : goal.returns-in_err-first-clause-err
returns-in_err-first-clause-err c =
    let own : c.in_ok-own.own ≡ c.args.one.now.acceptance = c.in_ok-own.ensures.ok ∙ c.acceptance.ensures in
    passed_on c.from_residual-in_err-first.result _ _ c.from_residual-in_err-first.ensures.1
    (large_weaker (most_depth < acc_depth (guarded c.args.sharing.now.first c.in_ok-own.own))
    (most_depth < acc_depth (either_guarded c.args.sharing.now c.args.one.now c.args.other.now))
    (λ deep. deep_first c.args.sharing.now c.args.one.now c.args.other.now (subst (λ tree. most_depth < acc_depth (guarded c.args.sharing.now.first tree)) own deep))
    _ c.in_err-first.ensures.err)

pub returns-in_err-second-clause-err : goal.returns-in_err-second-clause-err
returns-in_err-second-clause-err c =
    let moved : c.in_ok-moved.moved ≡ moved_after c.args.sharing.now.before c.args.other.now.acceptance =
    c.in_ok-moved.ensures.ok ∙ ap (moved_after c.args.sharing.now.before) c.acceptance-2.ensures in
    passed_on c.from_residual-in_err-second.result _ _ c.from_residual-in_err-second.ensures.1
    (large_weaker (most_depth < acc_depth (guarded c.args.sharing.now.second c.in_ok-moved.moved))
    (most_depth < acc_depth (either_guarded c.args.sharing.now c.args.one.now c.args.other.now))
    (λ deep. deep_second c.args.sharing.now c.args.one.now c.args.other.now (subst (λ tree. most_depth < acc_depth (guarded c.args.sharing.now.second tree)) moved deep))
    _ c.in_err-second.ensures.err)

pub returns-clause-formula : goal.returns-clause-formula
returns-clause-formula c =
    let own : c.in_ok-own.own ≡ c.args.one.now.acceptance = c.in_ok-own.ensures.ok ∙ c.acceptance.ensures in
    let moved : c.in_ok-moved.moved ≡ moved_after c.args.sharing.now.before c.args.other.now.acceptance =
    c.in_ok-moved.ensures.ok ∙ ap (moved_after c.args.sharing.now.before) c.acceptance-2.ensures in
    let first = c.in_ok-first.ensures.formula ∙ ap (guarded c.args.sharing.now.first) own in
    let second = c.in_ok-second.ensures.formula ∙ ap (guarded c.args.sharing.now.second) moved in
    IfOk-weaker c.disjoined_formula.result _ _ (λ formula is. is ∙ ap₂ disjunction first second) c.disjoined_formula.ensures.ok

pub returns-clause-err : goal.returns-clause-err
returns-clause-err c =
    let own : c.in_ok-own.own ≡ c.args.one.now.acceptance = c.in_ok-own.ensures.ok ∙ c.acceptance.ensures in
    let moved : c.in_ok-moved.moved ≡ moved_after c.args.sharing.now.before c.args.other.now.acceptance =
    c.in_ok-moved.ensures.ok ∙ ap (moved_after c.args.sharing.now.before) c.acceptance-2.ensures in
    let first = c.in_ok-first.ensures.formula ∙ ap (guarded c.args.sharing.now.first) own in
    let second = c.in_ok-second.ensures.formula ∙ ap (guarded c.args.sharing.now.second) moved in
    IfErr-weaker c.disjoined_formula.result _ _
    (λ refusal is. large_weaker (most_depth < acc_depth (disjunction c.in_ok-first.first c.in_ok-second.second))
    (most_depth < acc_depth (either_guarded c.args.sharing.now c.args.one.now c.args.other.now))
    (λ deep. subst (λ tree. most_depth < acc_depth tree) (ap₂ disjunction first second) deep) refusal is)
    c.disjoined_formula.ensures.err
