-- The conjuncts found and those of the labels that are left are the label's.
use Rattle.std.proofs.Common.{length, map}
use Rattle.omega_hoa_edges.specs.private.Stacked.{AreFound}
use Rattle.omega_hoa_edges.proofs.parts.conjuncts_in.Given as goal

abbrev pub invariant-loop-left : goal.invariant-loop-left
invariant-loop-left l = AreFound l.nodes l.left (map (λ part. part.now) l.parts.items)

abbrev pub decreases-loop-left : goal.decreases-loop-left
decreases-loop-left l = length l.left
