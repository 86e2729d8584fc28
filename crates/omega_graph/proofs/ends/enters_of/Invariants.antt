-- What holds in the loop of `enters_of`: the ends of the edges so far.
use Rattle.std.proofs.Common.{◌≡◌, ◌<◌, All, map, take}
use Rattle.omega_graph.specs.Graph.{ends_at}
use Rattle.omega_graph.proofs.ends.enters_of.Given as goal

abbrev pub invariant-loop-edge : goal.invariant-loop-edge
invariant-loop-edge l =
    (l.enters.items ≡ map (λ edge. (ends_at l.graph edge).to) (take l.edge-index l.edges)) × All (λ state. state < l.graph.states) l.enters.items
