-- What holds in the loop of `Links::new`: the links of the states so far.
use Rattle.omega_graph.proofs.Linked.{LinkedSoFar}
use Rattle.omega_graph.proofs.links.Links.new.Given as goal

abbrev pub invariant-loop-index : goal.invariant-loop-index
invariant-loop-index l = LinkedSoFar l.states l.count l.index l.last.items l.before.items
