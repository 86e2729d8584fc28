use Rattle.std.proofs.Common.{take}
use Rattle.omega_ltl_terms.specs.Products.{AddsJoins}
use Rattle.omega_ltl_terms.proofs.products.push_joins.Given as goal

-- the terms so far are joined
abbrev pub invariant-loop-term : goal.invariant-loop-term
invariant-loop-term l = AddsJoins l.with (take l.term-index l.terms) l.initial.kept.items l.kept.items
