use Rattle.std.proofs.Common.{take}
use Rattle.omega_ltl_terms.specs.Products.{AddsPairs}
use Rattle.omega_ltl_terms.proofs.products.push_pairs.Given as goal

-- the first terms so far are paired
abbrev pub invariant-loop-first : goal.invariant-loop-first
invariant-loop-first l = AddsPairs l.with (take l.first-index l.firsts) l.seconds l.initial.kept.items l.kept.items
