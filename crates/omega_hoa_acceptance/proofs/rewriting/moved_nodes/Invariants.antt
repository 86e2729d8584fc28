-- The nodes so far and those that are left make the nodes of the formula with other numbers.
use Rattle.std.proofs.Common.{◌≡◌, ◌++◌, drop, map}
use Rattle.omega_hoa_acceptance.specs.private.layout.Rewriting.{moved_node}
use Rattle.omega_hoa_acceptance.proofs.rewriting.moved_nodes.Given as goal

abbrev pub invariant-loop-node : goal.invariant-loop-node
invariant-loop-node l = l.moved.items ++ map (moved_node l.before) (drop l.node-index l.nodes) ≡ map (moved_node l.before) l.nodes
