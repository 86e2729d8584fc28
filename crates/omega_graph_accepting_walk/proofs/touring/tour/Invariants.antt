-- the walk is on its way, and shows the atoms of the first nodes
use Rattle.std.proofs.Common.{ℕ, ◌<◌, get_or}
use Rattle.omega_graph_accepting_walk.specs.declared.node.Node.{Node}
use Rattle.omega_graph_accepting_walk.specs.private.Walks.{ShowsAtom}
use Rattle.omega_graph_accepting_walk.specs.private.Search.{graph_of}
use Rattle.omega_graph_accepting_walk.specs.private.Tours.{IsWalked}
use Rattle.omega_graph_accepting_walk.proofs.touring.tour.Given as goal

abbrev pub invariant-loop-node : goal.invariant-loop-node
invariant-loop-node l =
    IsWalked l.search l.edges l.walked
    × ((k : ℕ) (d : Node) → k < l.node-index → ShowsAtom (graph_of l.search) l.edges l.walked.walk.items (get_or l.search.nodes.now k d))
