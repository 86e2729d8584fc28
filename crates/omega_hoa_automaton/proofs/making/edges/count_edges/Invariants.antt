-- What holds in the loop of `count_edges`: the count is that of the edges of the states so far.
use Rattle.std.proofs.Common.{◌≡◌, ◌<◌, ◌^◌, length, take}
use Rattle.std.specs.List.{flat_map}
use Rattle.omega_hoa_automaton.specs.Automaton.{edges_from}
use Rattle.omega_hoa_automaton.proofs.making.edges.count_edges.Given as goal

abbrev pub invariant-loop-state : goal.invariant-loop-state
invariant-loop-state l = (l.count ≡ length (flat_map edges_from (take l.state-index l.states))) × (l.count < 2 ^ 32)
