-- what waits comes to the same as at first, and gets less
use Rattle.std.proofs.Common.{◌≡◌, length, reverse}
use Rattle.omega_ltl_text.specs.private.Measuring.{reduced_depth}
use Rattle.omega_ltl_text.proofs.depths.reduce_depth.Given as goal

abbrev pub invariant-loop-last : goal.invariant-loop-last
invariant-loop-last l =
    reduced_depth l.least (reverse l.waiting.items) l.depth ≡ reduced_depth l.least (reverse l.initial.waiting.items) l.operand

abbrev pub decreases-loop-last : goal.decreases-loop-last
decreases-loop-last l = length l.waiting.items
