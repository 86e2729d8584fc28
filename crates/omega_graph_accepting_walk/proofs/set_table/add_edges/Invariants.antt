-- the table tells the sets of the edges before
use Rattle.std.proofs.Common.{take}
use Rattle.omega_graph_accepting_walk.specs.private.Walks.{AreSetsOn}
use Rattle.omega_graph_accepting_walk.specs.private.Search.{graph_of}
use Rattle.omega_graph_accepting_walk.proofs.set_table.add_edges.Given as goal

abbrev pub invariant-loop-at : goal.invariant-loop-at
invariant-loop-at l = AreSetsOn (graph_of l.search) (take l.at l.edges) l.sets.items
