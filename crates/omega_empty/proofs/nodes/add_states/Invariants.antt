use Rattle.std.proofs.Common.{◌≡◌, ◌++◌, map}
use Rattle.std.specs.List.{range_with_len}
use Rattle.omega_empty.specs.EmptinessGame.{state_node}
use Rattle.omega_empty.proofs.nodes.add_states.Given as goal

abbrev pub invariant-loop-state : goal.invariant-loop-state
invariant-loop-state l =
    l.builder ≡ l.initial.builder ++ map (state_node l.judged.kind l.judged.automaton l.judged.usable l.counter) (range_with_len 0 l.state)
