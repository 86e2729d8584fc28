-- The nodes so far and those that the nodes that are left make.
use Rattle.std.proofs.Common.{◌≡◌, ◌++◌, [], length, reverse}
use Rattle.omega_hoa_acceptance.specs.private.layout.Written.{written_back}
use Rattle.omega_hoa_acceptance.proofs.written.put_backward.Given as goal

abbrev pub invariant-loop-node : goal.invariant-loop-node
invariant-loop-node l = l.written.items ++ written_back l.ranks (reverse l.left) ≡ l.fn.written.items ++ written_back [] (reverse l.fn.nodes)

abbrev pub decreases-loop-node : goal.decreases-loop-node
decreases-loop-node l = length l.left
