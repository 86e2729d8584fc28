-- What holds in the loop of `any_accepted_beyond`: no acceptance so far has a set that is not below the count.
use Rattle.std.proofs.Common.{◌≡◌, false, take}
use Rattle.std.specs.List.{list_any}
use Rattle.omega_hoa_syntax.specs.declared.raw_item.RawItem.{RawItem}
use Rattle.omega_hoa_automaton.specs.Faults.{has_set_beyond, passes}
use Rattle.omega_hoa_automaton.specs.Items.{acceptance_in}
use Rattle.omega_hoa_automaton.proofs.judging.sets.any_accepted_beyond.Given as goal

abbrev pub invariant-loop-item : goal.invariant-loop-item
invariant-loop-item l = list_any (λ (item : RawItem). passes (has_set_beyond l.count) (acceptance_in item)) (take l.item-index l.items) ≡ false
