-- What holds in the loop of `edges_bound`: the bound is that of the edges so far.
use Rattle.std.proofs.Common.{◌≡◌, ◌^◌, ◌≤◌, take}
use Rattle.omega_hoa_automaton.specs.Faults.{count_above, greatest_of}
use Rattle.omega_hoa_automaton.proofs.judging.states.edges_bound.Given as goal

abbrev pub invariant-loop-at : goal.invariant-loop-at
invariant-loop-at l = (l.bound ≡ greatest_of (λ edge. count_above edge.targets) (take l.at l.edges)) × (l.bound ≤ 2 ^ 32)
