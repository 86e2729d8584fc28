-- what is pending comes to the same as at first, and gets less
use Rattle.std.proofs.Common.{Some, length}
use Rattle.omega_ltl_text.specs.private.Reader.{ComesTo, reader_of}
use Rattle.omega_ltl_text.proofs.reducing.reduce.Given as goal

abbrev pub invariant-loop-last : goal.invariant-loop-last
invariant-loop-last l = ComesTo l.least (reader_of l.initial.table l.initial.pending.items (Some l.operand)) l.table l.pending.items l.tree

abbrev pub decreases-loop-last : goal.decreases-loop-last
decreases-loop-last l = length l.pending.items
