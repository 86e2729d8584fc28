-- The trees so far and the nodes that are left make the label.
use Rattle.std.proofs.Common.{◌≡◌, [], drop}
use Rattle.omega_hoa_label.specs.private.layout.Label.{trees_of}
use Rattle.omega_hoa_label.proofs.shape.shape_of.Given as goal

abbrev pub invariant-loop-node : goal.invariant-loop-node
invariant-loop-node l = trees_of l.shapes (drop l.node-index l.nodes) ≡ trees_of [] l.nodes
