use Rattle.omega_ltl_terms.specs.private.Strongs.{AreCollected}
use Rattle.omega_ltl_terms.proofs.strongs.collected.Given as goal

-- the strong demands so far
abbrev pub invariant-loop-d : goal.invariant-loop-d
invariant-loop-d l = AreCollected l.shapes l.wanted l.d l.strongs
