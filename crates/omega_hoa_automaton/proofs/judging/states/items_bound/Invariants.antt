-- What holds in the loop of `items_bound`: the bound is that of the items so far.
use Rattle.std.proofs.Common.{◌≡◌, ◌^◌, ◌≤◌, take}
use Rattle.omega_hoa_automaton.specs.Faults.{greatest_of, item_bound}
use Rattle.omega_hoa_automaton.proofs.judging.states.items_bound.Given as goal

abbrev pub invariant-loop-item : goal.invariant-loop-item
invariant-loop-item l = (l.bound ≡ greatest_of item_bound (take l.item-index l.items)) × (l.bound ≤ 2 ^ 32)
