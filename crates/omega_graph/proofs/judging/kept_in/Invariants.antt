-- What holds in the loop of `kept_in`: of the edges so far those that stay in a component are kept.
use Rattle.std.proofs.Common.{length, take}
use Rattle.omega_graph.specs.Walks.{MarkedGraph}
use Rattle.omega_graph.specs.private.Ends.{HasEdges}
use Rattle.omega_graph.specs.private.Judging.{AreBelow, IsKept}
use Rattle.omega_graph.proofs.judging.kept_in.Given as goal

abbrev pub invariant-loop-index : goal.invariant-loop-index
invariant-loop-index l =
    AreBelow (length l.components) l.kept.edges.items l.kept.leaves.items l.kept.enters.items l.kept.keys.items
    × ((graph : MarkedGraph) → HasEdges graph l.edges
    → IsKept graph l.components (take l.index l.edges.numbers.now) l.kept.edges.items l.kept.leaves.items l.kept.enters.items l.kept.keys.items)
