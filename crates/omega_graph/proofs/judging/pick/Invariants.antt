-- What holds in the loop of `pick`: the edges from the index on that have the key are picked.
use Rattle.omega_graph.proofs.Judged.{IsPicking}
use Rattle.omega_graph.proofs.judging.pick.Given as goal

abbrev pub invariant-loop-left : goal.invariant-loop-left
invariant-loop-left l = IsPicking l.links.states l.edges l.key l.left l.edge_component.items

abbrev pub decreases-loop-left : goal.decreases-loop-left
decreases-loop-left l = l.left
