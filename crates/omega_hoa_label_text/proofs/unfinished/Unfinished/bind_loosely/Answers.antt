-- `|` joins the part.
use Rattle.std.proofs.Common.{◌+◌, ap, min, subst, sym, ◌∙◌}
use Rattle.omega_hoa_expression.specs.Limits.{past_depth}
use Rattle.omega_hoa_expression.proofs.PendingLemmas.{IsFree, IsLoose, free_others, popped}
use Rattle.omega_hoa_label_text.proofs.ReadingLemmas.{has_disjoined, has_free, has_is_loose}
use Rattle.omega_hoa_label_text.proofs.unfinished.Unfinished.bind_loosely.Goals as goal

pub returns-in_ok-push-in-Or-clause-ok : goal.returns-in_ok-push-in-Or-clause-ok
returns-in_ok-push-in-Or-clause-ok c whole left has =
    has_disjoined whole left _ _ _ _ _ _ _ _ (popped c.pop.result _ _ _ _ _ c.in-Some.ensures c.in-Or.is c.pop.ensures)
    c.in_ok-push-in-Or.ensures.ok (c.counted_deeper-self.ensures ∙ ap (λ d. min (d + 1) past_depth) c.max.ensures) has

pub returns-in_default-pending-clause-ok : goal.returns-in_default-pending-clause-ok
returns-in_default-pending-clause-ok c whole left has =
    has_free whole left _ _ _ _ has
    (subst IsFree (sym c.in-Some.ensures) (free_others _ _ (subst IsLoose c.in-Some.ensures (has_is_loose whole left _ _ _ _ has)) c.in_default-pending.not-Or))

pub returns-in_default-clause-ok : goal.returns-in_default-clause-ok
returns-in_default-clause-ok c whole left has = has_free whole left _ _ _ _ has (subst IsFree (sym c.in_default.ensures) tt)
