-- the union is too deep if both together are
use Rattle.std.proofs.Common.{◌<◌}
use Rattle.std.proofs.lemmas.Result.{IfErr-weaker}
use Rattle.omega_hoa_expression.specs.Limits.{most_depth}
use Rattle.omega_hoa_acceptance.specs.Acceptance.{acc_depth}
use Rattle.omega_hoa_edges.proofs.Refusals.{large_weaker}
use Rattle.omega_lang_union.specs.Sharing.{union_acceptance}
use Rattle.omega_lang_union.specs.private.Operands.{IsDeepFormula, either_guarded}
use Rattle.omega_lang_union.proofs.Deep.{deep_union}
use Rattle.omega_lang_union.proofs.acceptance.acceptance.Goals as goal

pub returns-clause-err : goal.returns-clause-err
returns-clause-err c =
    IfErr-weaker c.disjunction_of.result _ _
    (λ refusal is. large_weaker (most_depth < acc_depth (either_guarded c.args.sharing.now c.args.one.now c.args.other.now))
    (IsDeepFormula (union_acceptance c.args.sharing.now c.args.one.now c.args.other.now))
    (deep_union c.args.sharing.now c.args.one.now c.args.other.now c.if-shared.false) refusal is)
    c.disjunction_of.ensures.err
