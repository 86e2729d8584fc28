-- The nodes so far and those that are left make the nodes of the dual.
use Rattle.std.proofs.Common.{◌≡◌, ◌++◌, drop, map}
use Rattle.omega_hoa_acceptance.specs.private.layout.Rewriting.{dual_node}
use Rattle.omega_hoa_acceptance.proofs.rewriting.dual_nodes.Given as goal

abbrev pub invariant-loop-node : goal.invariant-loop-node
invariant-loop-node l = l.duals.items ++ map dual_node (drop l.node-index l.nodes) ≡ map dual_node l.nodes
