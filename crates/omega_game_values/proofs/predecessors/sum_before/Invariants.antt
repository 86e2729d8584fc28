-- What holds in the loop of `sum_before`: the numbers so far are replaced, the others stand.
use Rattle.omega_game_values.proofs.layout.CountedPredecessors.{AreSummed}
use Rattle.omega_game_values.proofs.predecessors.sum_before.Given as goal

abbrev pub invariant-loop-index : goal.invariant-loop-index
invariant-loop-index l = AreSummed l.fn.numbers.items l.index l.before l.numbers.items
