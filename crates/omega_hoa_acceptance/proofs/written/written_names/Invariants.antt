-- The names so far and those of the nodes that are left make the names.
use Rattle.std.proofs.Common.{◌≡◌, ◌++◌, drop}
use Rattle.omega_hoa_acceptance.specs.private.layout.Written.{node_names}
use Rattle.omega_hoa_acceptance.proofs.written.written_names.Given as goal

abbrev pub invariant-loop-node : goal.invariant-loop-node
invariant-loop-node l = l.names.items ++ node_names (drop l.node-index l.nodes) ≡ node_names l.nodes
