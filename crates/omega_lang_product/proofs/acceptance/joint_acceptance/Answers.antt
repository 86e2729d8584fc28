-- where some set need not recur, the formula is the conjunction of both
use Rattle.std.proofs.Common.{sym, ◌∙◌, true≢false}
use Rattle.omega_lang_product.proofs.Accepted.{conjoined_written}
use Rattle.omega_lang_product.proofs.acceptance.joint_acceptance.Goals as goal

pub returns-else-are_buchi-clause-ok : goal.returns-else-are_buchi-clause-ok
returns-else-are_buchi-clause-ok c =
    conjoined_written c.args.one.now c.args.other.now c.conjunction_of_both.result (λ both. true≢false (sym (c.are_buchi.ensures.1 both) ∙ c.if-are_buchi.false))
    c.conjunction_of_both.ensures.name c.conjunction_of_both.ensures.formula
