-- The nodes so far are over the other propositions.
use Rattle.std.proofs.Common.{◌≡◌, map, take}
use Rattle.omega_hoa_label.specs.private.layout.Moving.{moved_node}
use Rattle.omega_hoa_label.proofs.making.nodes_over_propositions.Given as goal

abbrev pub invariant-loop-node : goal.invariant-loop-node
invariant-loop-node l = l.moved ≡ map (moved_node l.places) (take l.node-index l.nodes)
