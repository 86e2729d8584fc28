-- `write_states`: the states before this one are drawn.
use Rattle.std.proofs.Common.{◌≡◌, ◌++◌, take}
use Rattle.std.specs.List.{flat_map}
use Rattle.omega_hoa_dot.specs.States.{drawn_state}
use Rattle.omega_hoa_dot.proofs.states.write_states.Given as goal

abbrev pub invariant-loop-state : goal.invariant-loop-state
invariant-loop-state l =
    l.out.items ≡ l.fn.out.items ++ flat_map (drawn_state l.automaton.propositions) (take l.state-index l.automaton.defined)
