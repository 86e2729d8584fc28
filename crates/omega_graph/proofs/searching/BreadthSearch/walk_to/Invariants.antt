-- What holds in the loop of `BreadthSearch::walk_to`: the edges so far, turned round, lead to the state at the index.
use Rattle.std.proofs.Common.{ℕ, ◌<◌, List, length, reverse}
use Rattle.omega_graph.specs.Walks.{MarkedGraph, IsEdgeWalk}
use Rattle.omega_graph.specs.Graph.{listed}
use Rattle.omega_graph.specs.private.Ends.{AreEnds}
use Rattle.omega_graph.specs.private.Searching.{IsMet, met_at}
use Rattle.omega_graph.proofs.searching.BreadthSearch.walk_to.Given as goal

abbrev pub invariant-loop-self : goal.invariant-loop-self
invariant-loop-self l =
    (l.at < length l.self.met)
    × ((graph : MarkedGraph) (leaves enters sources : List ℕ) → AreEnds graph l.edges leaves enters
    → ((i : ℕ) → i < length l.self.met → IsMet leaves enters sources l.self.met i)
    → IsEdgeWalk graph (listed l.edges) (met_at l.self.met l.at).state (reverse l.walk.items) (met_at l.self.met l.index).state)

abbrev pub decreases-loop-self : goal.decreases-loop-self
decreases-loop-self l = l.at
