use Rattle.std.proofs.Common.{take}
use Rattle.omega_ltl_terms.specs.private.Marking.{MarksMore}
use Rattle.omega_ltl_terms.proofs.closing.mark_all.Given as goal

-- those so far are marked
abbrev pub invariant-loop-d : goal.invariant-loop-d
invariant-loop-d l = MarksMore (take l.d-index l.demands) l.initial.marked l.marked
