-- the values of the first nodes
use Rattle.std.proofs.Common.{◌≡◌, length}
use Rattle.omega_graph_accepting_walk.specs.private.Walks.{AreValues}
use Rattle.omega_graph_accepting_walk.specs.private.Search.{formulas_of, graph_of}
use Rattle.omega_graph_accepting_walk.proofs.valuing.values.Given as goal

abbrev pub invariant-loop-node : goal.invariant-loop-node
invariant-loop-node l =
    (length l.values.items ≡ l.node-index)
    × AreValues (graph_of l.search) (formulas_of l.search) l.edges l.values.items
