-- The nodes that are left make the front of the label.
use Rattle.std.proofs.Common.{◌≡◌, [], length}
use Rattle.omega_hoa_label.specs.private.layout.Parts.{parts_after, whole_nodes}
use Rattle.omega_hoa_label.proofs.written.put_all.Given as goal

abbrev pub invariant-loop-node : goal.invariant-loop-node
invariant-loop-node l = whole_nodes l.grouping (parts_after [] l.left) ≡ whole_nodes l.fn.grouping (parts_after [] l.fn.nodes)

abbrev pub decreases-loop-node : goal.decreases-loop-node
decreases-loop-node l = length l.left
