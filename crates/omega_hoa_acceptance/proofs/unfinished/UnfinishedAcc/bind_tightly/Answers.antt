-- `&` joins the part.
use Rattle.std.proofs.Common.{◌+◌, ap, min, subst, sym, ◌∙◌}
use Rattle.omega_hoa_expression.specs.Limits.{past_depth}
use Rattle.omega_hoa_expression.specs.Symbols.{unary}
use Rattle.omega_hoa_acceptance.specs.private.layout.Building.{Has}
use Rattle.omega_hoa_acceptance.proofs.ReadingLemmas.{has_conjoined, has_loose, has_others}
use Rattle.omega_hoa_expression.proofs.PendingLemmas.{IsLoose, popped}
use Rattle.omega_hoa_acceptance.proofs.unfinished.UnfinishedAcc.bind_tightly.Goals as goal

pub returns-in_ok-push-in-And-clause-ok : goal.returns-in_ok-push-in-And-clause-ok
returns-in_ok-push-in-And-clause-ok c whole left has =
    has_conjoined whole left _ _ _ _ _ _ _ _ (popped c.pop.result _ _ _ _ _ c.in-Some.ensures c.in-And.is c.pop.ensures)
    c.in_ok-push-in-And.ensures.items (c.counted_deeper-self.ensures ∙ ap (λ d. min (d + 1) past_depth) c.max.ensures) has

pub returns-in_default-pending-clause-ok : goal.returns-in_default-pending-clause-ok
returns-in_default-pending-clause-ok c whole left has =
    has_loose whole left _ _ _ _ has
    (subst IsLoose (sym c.in-Some.ensures)
    (has_others whole left _ _ _ _ _
    (subst (λ p. Has unary whole left c.args.self.now.depth c.args.self.now.nodes.items c.args.self.now.names.items p) c.in-Some.ensures has) c.in_default-pending.not-And))

pub returns-in_default-clause-ok : goal.returns-in_default-clause-ok
returns-in_default-clause-ok c whole left has = has_loose whole left _ _ _ _ has (subst IsLoose (sym c.in_default.ensures) tt)
