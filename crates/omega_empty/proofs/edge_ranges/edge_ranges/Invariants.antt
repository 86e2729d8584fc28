use Rattle.std.proofs.Common.{◌≡◌, length, take}
use Rattle.std.specs.List.{flat_map}
use Rattle.omega_hoa_automaton.specs.Automaton.{edges_from}
use Rattle.omega_empty.proofs.making.Ranges.{AreSoFar}
use Rattle.omega_empty.proofs.edge_ranges.edge_ranges.Given as goal

abbrev pub invariant-loop-state : goal.invariant-loop-state
invariant-loop-state l =
    (l.next ≡ length (flat_map edges_from (take l.state-index l.automaton.defined)))
    × (length l.ranges.items ≡ l.automaton.states)
    × AreSoFar (take l.state-index l.automaton.defined) l.automaton.states l.ranges.items
