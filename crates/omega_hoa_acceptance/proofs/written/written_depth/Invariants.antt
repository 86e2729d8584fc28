-- The depths so far and the nodes that are left make the depth.
use Rattle.std.proofs.Common.{◌≡◌, [], drop}
use Rattle.omega_hoa_acceptance.specs.private.layout.Written.{raw_depths_after}
use Rattle.omega_hoa_acceptance.proofs.written.written_depth.Given as goal

abbrev pub invariant-loop-node : goal.invariant-loop-node
invariant-loop-node l = raw_depths_after l.depths (drop l.node-index l.nodes) ≡ raw_depths_after [] l.nodes
