-- The nodes so far.
use Rattle.std.proofs.Common.{◌≡◌, take}
use Rattle.omega_hoa_edges.proofs.finding.copy_of_nodes.Given as goal

abbrev pub invariant-loop-node : goal.invariant-loop-node
invariant-loop-node l = l.copy ≡ take l.node-index l.nodes
