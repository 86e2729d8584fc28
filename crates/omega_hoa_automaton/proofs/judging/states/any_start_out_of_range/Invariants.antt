-- What holds in the loop of `any_start_out_of_range`: no start so far is out of range.
use Rattle.std.proofs.Common.{◌≡◌, false, take}
use Rattle.std.specs.List.{list_any}
use Rattle.omega_hoa_syntax.specs.declared.raw_item.RawItem.{RawItem}
use Rattle.omega_hoa_automaton.specs.Faults.{are_out_of_range, passes}
use Rattle.omega_hoa_automaton.specs.Items.{start_in}
use Rattle.omega_hoa_automaton.proofs.judging.states.any_start_out_of_range.Given as goal

abbrev pub invariant-loop-item : goal.invariant-loop-item
invariant-loop-item l = list_any (λ (item : RawItem). passes (are_out_of_range l.count) (start_in item)) (take l.item-index l.items) ≡ false
