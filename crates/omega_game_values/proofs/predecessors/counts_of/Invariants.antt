-- What holds in the loop of `counts_of`: the number of predecessors of each place.
use Rattle.omega_game_values.specs.private.layout.Predecessors.{AreCounted}
use Rattle.omega_game_values.proofs.predecessors.counts_of.Given as goal

abbrev pub invariant-loop-v : goal.invariant-loop-v
invariant-loop-v l = AreCounted l.successors l.v 0 l.counts.items

abbrev pub invariant-loop-w : goal.invariant-loop-w
invariant-loop-w l = AreCounted l.successors l.v l.w-index l.counts.items
