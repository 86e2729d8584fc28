-- the formula of either kind
use Rattle.std.proofs.Common.{None, Some, inl, inr, refl, sym, ◌+◌, ◌∙◌, true≢false}
use Rattle.std.proofs.lemmas.Result.{IfOk-weaker}
use Rattle.omega_lang_product.specs.Acceptance.{buchi_name}
use Rattle.omega_lang_product.proofs.conjoining.joint_formula.Goals as goal

pub returns-then-are_buchi-clause-ok : goal.returns-then-are_buchi-clause-ok
returns-then-are_buchi-clause-ok c =
    IfOk-weaker c.recurring_in_both.result _ _
    (λ formula is. (
      Some (buchi_name (c.args.one.now.sets + c.args.other.now.sets)),
      inl (record { both = c.are_buchi.ensures.0 c.if-are_buchi.true; name_is = refl; formula_is = is }),
    )) c.recurring_in_both.ensures.ok

pub returns-else-are_buchi-clause-ok : goal.returns-else-are_buchi-clause-ok
returns-else-are_buchi-clause-ok c =
    IfOk-weaker c.conjunction.result _ _
    (λ formula is. (
      None,
      inr (record { others = λ both. true≢false (sym (c.are_buchi.ensures.1 both) ∙ c.if-are_buchi.false); name_is = refl; formula_is = is }),
    )) c.conjunction.ensures.formula
