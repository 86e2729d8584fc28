use Rattle.std.proofs.Common.{◌≡◌, true, false, sym, subst, ◌∙◌}
use Rattle.std.proofs.lemmas.Bool.{both_ways}
use Rattle.omega_ltl_shapes.specs.declared.shape.Shape.{Shape}
use Rattle.omega_ltl_terms.specs.Closing.{stays_closed}
use Rattle.omega_ltl_terms.specs.private.Marking.{AddsStayed}
use Rattle.omega_ltl_terms.proofs.ClosingLemmas.{stayed_none, stayed_one}
use Rattle.omega_ltl_terms.proofs.closing.push_stayed.Goals as goal

pub returns-then-not-value_at-clause-ok : goal.returns-then-not-value_at-clause-ok
returns-then-not-value_at-clause-ok c =
    let absent : c.value_at.result ≡ false = cc in
    stayed_none c.args.shapes.now c.args.marked.now c.args.d c.args.items.now (λ here stays. both_ways c.value_at.result absent (c.value_at.ensures ∙ here))

pub returns-then-not-stays-clause-ok : goal.returns-then-not-stays-clause-ok
returns-then-not-stays-clause-ok c =
    let gone : c.stays.result ≡ false = cc in
    stayed_none c.args.shapes.now c.args.marked.now c.args.d c.args.items.now
    (λ here stays. both_ways c.stays.result gone (c.stays.ensures ∙ subst (λ (s : Shape). stays_closed s ≡ true) (sym c.shape_at.ensures) stays))

pub returns-clause-ok : goal.returns-clause-ok
returns-clause-ok c =
    let here : c.value_at.result ≡ true = cc in
    let kept : c.stays.result ≡ true = cc in
    subst (AddsStayed c.args.shapes.now c.args.marked.now c.args.d c.args.items.now) (sym c.in_ok-push.ensures.ok)
    (stayed_one c.args.shapes.now c.args.marked.now c.args.d c.args.items.now (sym c.value_at.ensures ∙ here)
    (subst (λ (s : Shape). stays_closed s ≡ true) c.shape_at.ensures (sym c.stays.ensures ∙ kept)))
