-- the terms of one demand more
use Rattle.std.proofs.Common.{◌<◌, ◌≤◌, ℕ, length, refl, sym, ap, subst, arith}
use Rattle.std.proofs.lemmas.List.{length_push}
use Rattle.omega_ltl_terms.specs.Products.{AreTerms, AreTermsOf}
use Rattle.omega_ltl_terms.proofs.TermLemmas.{all_more}
use Rattle.omega_ltl_terms.proofs.terms.terms_of_all.Goals as goal

pub loop-d-preserved : goal.loop-d-preserved
loop-d-preserved c =
    let here : AreTermsOf c.args.shapes.now c.loop-d.d c.in_ok-terms.terms =
    c.in_ok-terms.ensures.terms c.args.shapes.now (subst (AreTerms c.args.shapes.now) (sym c.as_slice.ensures.value) c.loop-d.invariant.terms) (sym c.shape_at-shape.ensures) in
    let room : length c.in_ok-terms.terms ≤ 4096 = omega (arith, c.len.ensures) in
    record {
      count = omega (arith, ap length c.in_ok-push.ensures.items, length_push c.loop-d.all.items c.in_ok-terms.terms);
      terms = subst (AreTerms c.args.shapes.now) (sym c.in_ok-push.ensures.items)
          (all_more c.args.shapes.now c.loop-d.all.items c.in_ok-terms.terms c.loop-d.invariant.terms
          (subst (λ (n : ℕ). AreTermsOf c.args.shapes.now n c.in_ok-terms.terms) (sym c.loop-d.invariant.count) here) room);
    }

-- over the limit
pub returns-then-len-gt-MOST_TERMS-clause-refused : goal.returns-then-len-gt-MOST_TERMS-clause-refused
returns-then-len-gt-MOST_TERMS-clause-refused c =
    let here : AreTermsOf c.args.shapes.now c.loop-d.d c.in_ok-terms.terms =
    c.in_ok-terms.ensures.terms c.args.shapes.now (subst (AreTerms c.args.shapes.now) (sym c.as_slice.ensures.value) c.loop-d.invariant.terms) (sym c.shape_at-shape.ensures) in
    let many : 4096 < length c.in_ok-terms.terms = omega (arith, c.len.ensures) in
    (refl, (c.loop-d.d, omega arith, record { terms = c.in_ok-terms.terms; apart = here.apart; each = here.ways; many = many }))
