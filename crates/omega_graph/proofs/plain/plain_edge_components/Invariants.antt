-- What holds in the loop of `plain_edge_components`: the components are the classes of the edges so far.
use Rattle.omega_graph.specs.Walks.{MarkedGraph}
use Rattle.omega_graph.specs.private.Ends.{HasEdges}
use Rattle.omega_graph.proofs.Classes.{AreClasses}
use Rattle.omega_graph.proofs.plain.plain_edge_components.Given as goal

abbrev pub invariant-loop-index : goal.invariant-loop-index
invariant-loop-index l = (graph : MarkedGraph) → HasEdges graph l.edges → AreClasses graph l.edges.numbers.now l.index l.edge_components
