-- What holds in the loop of `bound_of`: the bound is that of the numbers so far.
use Rattle.std.proofs.Common.{◌≡◌, ◌+◌, ◌^◌, ◌≤◌, take}
use Rattle.omega_hoa_automaton.specs.Faults.{greatest_of}
use Rattle.omega_hoa_automaton.proofs.judging.states.bound_of.Given as goal

abbrev pub invariant-loop-number : goal.invariant-loop-number
invariant-loop-number l = (l.bound ≡ greatest_of (λ number. number + 1) (take l.number-index l.numbers)) × (l.bound ≤ 2 ^ 32)
