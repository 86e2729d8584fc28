use Rattle.std.proofs.Common.{◌≡◌, ◌++◌, length, take}
use Rattle.std.specs.List.{flat_map}
use Rattle.omega_hoa_automaton.specs.Automaton.{edges_from}
use Rattle.omega_empty.specs.EmptinessGame.{edge_nodes}
use Rattle.omega_empty.proofs.nodes.add_edges.Given as goal

abbrev pub invariant-loop-state : goal.invariant-loop-state
invariant-loop-state l =
    (l.number ≡ length (flat_map edges_from (take l.state-index l.judged.automaton.defined)))
    × (l.builder ≡ l.initial.builder ++ edge_nodes l.judged.kind l.judged.automaton l.judged.usable l.counter 0 (flat_map edges_from (take l.state-index l.judged.automaton.defined)))
