-- What holds in the loop of `predecessors_of`: the predecessors of each place, rising, one for each listed edge,
-- by counting.
use Rattle.omega_game_values.proofs.layout.CountedPredecessors.{AreFilled}
use Rattle.omega_game_values.proofs.predecessors.predecessors_of.Given as goal

abbrev pub invariant-loop-v : goal.invariant-loop-v
invariant-loop-v l = AreFilled l.starts.items l.successors l.v 0 l.cursors.items l.sources.items

abbrev pub invariant-loop-w : goal.invariant-loop-w
invariant-loop-w l = AreFilled l.starts.items l.successors l.v l.w-index l.cursors.items l.sources.items
