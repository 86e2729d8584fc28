-- What was read and the nodes that are left make what all nodes make.
use Rattle.std.proofs.Common.{◌≡◌, Some, drop}
use Rattle.omega_hoa_satisfiable.specs.private.ReadLiterals.{no_literals, with_nodes}
use Rattle.omega_hoa_satisfiable.proofs.literals.read_literals.Given as goal

abbrev pub invariant-loop-node : goal.invariant-loop-node
invariant-loop-node l = with_nodes (Some l.read) (drop l.node-index l.nodes) ≡ with_nodes (Some no_literals) l.nodes
