use Rattle.std.proofs.Common.{◌≤◌, length}
use Rattle.omega_ltl_terms.specs.private.Strongs.{AreSpoken, MarksNeeded}
use Rattle.omega_ltl_terms.proofs.strongs.mark_operands_of_all.Given as goal

abbrev pub decreases-loop-d : goal.decreases-loop-d
decreases-loop-d l = l.d

-- what the marked demands from here on speak of is marked
abbrev pub invariant-loop-d : goal.invariant-loop-d
invariant-loop-d l = record {
  low : l.d ≤ length l.shapes;
  marks : MarksNeeded l.shapes l.initial.marked l.marked;
  spoken : AreSpoken l.shapes l.d l.marked;
}
