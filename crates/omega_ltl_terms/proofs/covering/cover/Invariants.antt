use Rattle.omega_ltl_terms.specs.Tables.{AreCovered}
use Rattle.omega_ltl_terms.proofs.covering.cover.Given as goal

-- the values so far
abbrev pub invariant-loop-d : goal.invariant-loop-d
invariant-loop-d l = AreCovered l.shapes l.cube l.next l.d l.covered.items
