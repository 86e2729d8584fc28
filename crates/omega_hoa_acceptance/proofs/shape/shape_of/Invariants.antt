-- The trees so far and the nodes that are left make the formula.
use Rattle.std.proofs.Common.{◌≡◌, [], drop}
use Rattle.omega_hoa_acceptance.specs.private.layout.Acceptance.{acc_trees_of}
use Rattle.omega_hoa_acceptance.proofs.shape.shape_of.Given as goal

abbrev pub invariant-loop-node : goal.invariant-loop-node
invariant-loop-node l = acc_trees_of l.shapes (drop l.node-index l.nodes) ≡ acc_trees_of [] l.nodes
