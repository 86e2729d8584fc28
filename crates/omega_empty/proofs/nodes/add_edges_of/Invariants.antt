use Rattle.std.proofs.Common.{◌≡◌, ◌+◌, ◌++◌, take}
use Rattle.omega_hoa_automaton.specs.Automaton.{edges_from}
use Rattle.omega_empty.specs.EmptinessGame.{edge_nodes}
use Rattle.omega_empty.proofs.nodes.add_edges_of.Given as goal

abbrev pub invariant-loop-at : goal.invariant-loop-at
invariant-loop-at l =
    (l.next ≡ l.number + l.at)
    × (l.builder ≡ l.initial.builder ++ edge_nodes l.judged.kind l.judged.automaton l.judged.usable l.counter l.number (take l.at (edges_from l.state)))
