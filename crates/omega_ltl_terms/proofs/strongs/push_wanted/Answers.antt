use Rattle.std.proofs.Common.{◌≡◌, ◌<◌, true, false, sym, subst, ◌∙◌, length, ◌+◌, arith}
use Rattle.std.proofs.lemmas.Bool.{both_ways}
use Rattle.omega_ltl_shapes.specs.Shapes.{is_strong}
use Rattle.omega_ltl_shapes.specs.declared.shape.Shape.{Shape}
use Rattle.omega_ltl_terms.specs.private.Strongs.{AreCollected}
use Rattle.omega_ltl_terms.proofs.StrongLemmas.{collected_more, collected_same}
use Rattle.omega_ltl_terms.proofs.strongs.push_wanted.Goals as goal

pub returns-then-not-value_at-clause-ok : goal.returns-then-not-value_at-clause-ok
returns-then-not-value_at-clause-ok c =
    let absent : c.value_at.result ≡ false = cc in
    collected_same c.args.shapes.now c.args.wanted.now c.args.d c.args.strongs.now
    (λ here strong. absurd (both_ways c.value_at.result absent (c.value_at.ensures ∙ here))) c.requires.so_far

pub returns-then-not-is_strong-clause-ok : goal.returns-then-not-is_strong-clause-ok
returns-then-not-is_strong-clause-ok c =
    let weak : c.is_strong.result ≡ false = cc in
    collected_same c.args.shapes.now c.args.wanted.now c.args.d c.args.strongs.now
    (λ here strong. absurd (both_ways c.is_strong.result weak (c.is_strong.ensures ∙ subst (λ (s : Shape). is_strong s ≡ true) (sym c.shape_at.ensures) strong))) c.requires.so_far

pub returns-then-len-ge-MOST_SETS-clause-ok : goal.returns-then-len-ge-MOST_SETS-clause-ok
returns-then-len-ge-MOST_SETS-clause-ok c =
    collected_same c.args.shapes.now c.args.wanted.now c.args.d c.args.strongs.now (λ here strong. omega (arith, c.len.ensures)) c.requires.so_far

pub returns-clause-ok : goal.returns-clause-ok
returns-clause-ok c =
    let here : c.value_at.result ≡ true = cc in
    let strong : c.is_strong.result ≡ true = cc in
    let room : length c.args.strongs.now < 64 = omega (arith, c.len.ensures) in
    subst (AreCollected c.args.shapes.now c.args.wanted.now (c.args.d + 1)) (sym c.in_ok-push.ensures.ok)
    (collected_more c.args.shapes.now c.args.wanted.now c.args.d c.args.strongs.now c.requires.below (sym c.value_at.ensures ∙ here)
    (subst (λ (s : Shape). is_strong s ≡ true) c.shape_at.ensures (sym c.is_strong.ensures ∙ strong)) room c.requires.so_far)
