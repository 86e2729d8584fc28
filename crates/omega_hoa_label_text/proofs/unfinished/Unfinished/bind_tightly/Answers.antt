-- Each `!` negates the part, and `&` joins it.
use Rattle.std.proofs.Common.{◌∷◌, ap, arith, length, subst, sym, ◌∙◌}
use Rattle.omega_hoa_expression.specs.Symbols.{conjunctive}
use Rattle.omega_hoa_expression.specs.declared.pending.Pending.TheVariants.{And}
use Rattle.omega_hoa_label_text.specs.private.Building.{Has}
use Rattle.omega_hoa_expression.proofs.PendingLemmas.{IsLoose, loose_others, popped}
use Rattle.omega_hoa_label_text.proofs.ReadingLemmas.{has_conjoined, has_loose, has_negated}
use Rattle.omega_hoa_label_text.proofs.unfinished.Unfinished.bind_tightly.Goals as goal

pub loop-pending-preserved : goal.loop-pending-preserved
loop-pending-preserved c whole left has =
    has_negated whole left _ _ _ _ _ _ _ (popped c.pop.result _ _ _ _ _ c.in-Some.ensures c.in-Not.is c.pop.ensures)
    c.in_ok-push-in-Not.ensures.ok c.counted_deeper-self.ensures (c.loop-pending.invariant whole left has)

pub loop-pending-smaller : goal.loop-pending-smaller
loop-pending-smaller c =
    omega (arith, ap length (popped c.pop.result _ _ _ _ _ c.in-Some.ensures c.in-Not.is c.pop.ensures))

pub returns-in-And-clause-ok : goal.returns-in-And-clause-ok
returns-in-And-clause-ok c whole left has =
    subst (λ names. Has conjunctive whole left c.conjoin.new.self.depth c.conjoin.new.self.nodes names c.conjoin.new.self.pending) (sym c.in_ok-conjoin-in-And.ensures.names)
    (has_conjoined whole left _ _ _ _ _ _ _ _
    (popped _ _ _ _ _ _ c.in-Some.ensures c.in-And.is c.pop-in-And.ensures ∙ ap (λ rest. And c.in-And.left ∷ rest) (sym c.in_ok-conjoin-in-And.ensures.pending))
    c.in_ok-conjoin-in-And.ensures.nodes c.in_ok-conjoin-in-And.ensures.depth (c.loop-pending.invariant whole left has))

pub returns-in_default-pending-clause-ok : goal.returns-in_default-pending-clause-ok
returns-in_default-pending-clause-ok c whole left has =
    has_loose whole left _ _ _ _ (c.loop-pending.invariant whole left has)
    (subst IsLoose (sym c.in-Some.ensures) (loose_others _ _ c.in_default-pending.not-Not c.in_default-pending.not-And))

pub returns-clause-ok : goal.returns-clause-ok
returns-clause-ok c whole left has =
    has_loose whole left _ _ _ _ (c.loop-pending.invariant whole left has) (subst IsLoose (sym c.in_default.ensures) tt)
