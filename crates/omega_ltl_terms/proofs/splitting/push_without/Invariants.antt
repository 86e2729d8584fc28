use Rattle.omega_ltl_terms.proofs.SplittingLemmas.{IsSoFar}
use Rattle.omega_ltl_terms.proofs.splitting.push_without.Given as goal

-- the literals of the names so far
abbrev pub invariant-loop-name : goal.invariant-loop-name
invariant-loop-name l = IsSoFar l.fn.cube l.other l.base l.name l.initial.left.items l.left.items
