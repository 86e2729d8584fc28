-- What holds in the loop of `graph_of`: the graph has its states.
use Rattle.std.proofs.Common.{◌≡◌}
use Rattle.omega_tests.proofs.automata.graphs.graph_of.Given as goal

abbrev pub invariant-loop-from : goal.invariant-loop-from
invariant-loop-from l = l.graph.states ≡ l.states
