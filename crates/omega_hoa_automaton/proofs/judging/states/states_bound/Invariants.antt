-- What holds in the loop of `states_bound`: the bound is that of the states so far.
use Rattle.std.proofs.Common.{◌≡◌, ◌^◌, ◌≤◌, take}
use Rattle.omega_hoa_automaton.specs.Faults.{greatest_of, state_bound}
use Rattle.omega_hoa_automaton.proofs.judging.states.states_bound.Given as goal

abbrev pub invariant-loop-state : goal.invariant-loop-state
invariant-loop-state l = (l.bound ≡ greatest_of state_bound (take l.state-index l.states)) × (l.bound ≤ 2 ^ 32)
