-- The depths so far and the nodes that are left make the depth.
use Rattle.std.proofs.Common.{◌≡◌, [], drop}
use Rattle.omega_hoa_acceptance.specs.private.layout.Plain.{depths_after}
use Rattle.omega_hoa_acceptance.proofs.plain.depth_of.Given as goal

abbrev pub invariant-loop-node : goal.invariant-loop-node
invariant-loop-node l = depths_after l.depths (drop l.node-index l.nodes) ≡ depths_after [] l.nodes
