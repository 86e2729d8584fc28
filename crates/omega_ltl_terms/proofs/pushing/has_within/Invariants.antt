use Rattle.std.proofs.Common.{take}
use Rattle.std.specs.Prelude.{Contains}
use Rattle.omega_ltl_shapes.specs.Terms.{IsWithin}
use Rattle.omega_ltl_shapes.specs.declared.term.Term.{Term}
use Rattle.omega_ltl_terms.proofs.pushing.has_within.Given as goal

-- none of those so far is within the term
abbrev pub invariant-loop-less : goal.invariant-loop-less
invariant-loop-less l = (less : Term) → Contains (take l.less-index l.terms) less → IsWithin less l.term → ⊥
