-- What holds in the loop of `leaves_of`: the ends of the edges so far.
use Rattle.std.proofs.Common.{◌≡◌, ◌<◌, All, map, take}
use Rattle.omega_graph.specs.Graph.{ends_at}
use Rattle.omega_graph.proofs.ends.leaves_of.Given as goal

abbrev pub invariant-loop-edge : goal.invariant-loop-edge
invariant-loop-edge l =
    (l.leaves.items ≡ map (λ edge. (ends_at l.graph edge).from) (take l.edge-index l.edges)) × All (λ state. state < l.graph.states) l.leaves.items
