use Rattle.std.proofs.Common.{◌≤◌, length}
use Rattle.omega_ltl_terms.specs.private.Marking.{AreParted, MarksTrue}
use Rattle.omega_ltl_terms.proofs.closing.mark_parts.Given as goal

abbrev pub decreases-loop-d : goal.decreases-loop-d
decreases-loop-d l = l.d

-- the demands from here on are parted
abbrev pub invariant-loop-d : goal.invariant-loop-d
invariant-loop-d l = record {
  low : l.d ≤ length l.shapes;
  marks : MarksTrue l.shapes l.initial.marked l.marked;
  parted : AreParted l.shapes l.d l.marked;
}
