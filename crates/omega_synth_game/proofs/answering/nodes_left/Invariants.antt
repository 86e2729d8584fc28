-- the nodes so far have constants in place of inputs
use Rattle.std.proofs.Common.{◌≡◌, map, take}
use Rattle.omega_synth_game.specs.private.Restricted.{restricted_node}
use Rattle.omega_synth_game.proofs.answering.nodes_left.Given as goal

abbrev pub invariant-loop-node : goal.invariant-loop-node
invariant-loop-node l = l.left ≡ map (restricted_node l.controlled l.letter) (take l.node-index l.nodes)
