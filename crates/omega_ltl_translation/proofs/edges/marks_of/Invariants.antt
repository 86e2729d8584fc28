use Rattle.omega_ltl_translation.specs.private.Written.{AreMarksOf}
use Rattle.omega_ltl_translation.proofs.edges.marks_of.Given as goal

-- the sets so far
abbrev pub invariant-loop-set : goal.invariant-loop-set
invariant-loop-set l = AreMarksOf l.set l.late l.marks
