use Rattle.std.proofs.Common.{◌≡◌, length}
use Rattle.omega_ltl_terms.specs.Products.{AreTerms}
use Rattle.omega_ltl_terms.proofs.terms.terms_of_all.Given as goal

-- the terms of the demands so far
abbrev pub invariant-loop-d : goal.invariant-loop-d
invariant-loop-d l = record { count : length l.all.items ≡ l.d; terms : AreTerms l.shapes l.all.items }
