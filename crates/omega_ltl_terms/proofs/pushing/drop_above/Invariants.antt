use Rattle.std.proofs.Common.{◌-◌, length}
use Rattle.omega_ltl_terms.proofs.Adding.{DropsAbove}
use Rattle.omega_ltl_terms.proofs.pushing.drop_above.Given as goal

abbrev pub decreases-loop-at : goal.decreases-loop-at
decreases-loop-at l = length l.terms.items - l.at

-- what was there is there, or is above the term
abbrev pub invariant-loop-at : goal.invariant-loop-at
invariant-loop-at l = DropsAbove l.term l.at l.initial.terms.items l.terms.items
