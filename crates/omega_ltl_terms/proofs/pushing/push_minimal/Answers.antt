-- the list is full, or a term within it is there, or it is pushed
use Rattle.std.proofs.Common.{◌≤◌, List, length, sym, subst, arith}
use Rattle.std.proofs.lemmas.Bool.{both_ways}
use Rattle.omega_ltl_shapes.specs.declared.term.Term.{Term}
use Rattle.omega_ltl_terms.specs.Adding.{AddsMinimal, HasWithin}
use Rattle.omega_ltl_terms.proofs.Adding.{minimal_pushed}
use Rattle.omega_ltl_terms.proofs.pushing.push_minimal.Goals as goal

pub returns-clause-ok : goal.returns-clause-ok
returns-clause-ok c =
    let room : length c.args.kept.now.items ≤ 4096 = omega (arith, c.len.ensures) in
    subst (AddsMinimal c.args.term c.args.kept.now.items) (sym c.in_ok-push.ensures.items)
    (minimal_pushed c.args.kept.now.items c.drop_above.new.terms.items c.args.term room
    (λ has. both_ways c.has_within.result c.if-has_within.false
    (c.has_within.ensures.1 (subst (λ (xs : List Term). HasWithin xs c.args.term) (sym c.as_slice.ensures.value) has)))
    c.drop_above.ensures.old c.drop_above.ensures.below c.drop_above.ensures.kept c.drop_above.ensures.apart c.drop_above.ensures.short)
