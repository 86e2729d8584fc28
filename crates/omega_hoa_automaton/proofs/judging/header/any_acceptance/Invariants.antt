-- What holds in the loop of `any_acceptance`: no item so far is an acceptance.
use Rattle.std.proofs.Common.{◌≡◌, false, is_some, take}
use Rattle.std.specs.List.{list_any}
use Rattle.omega_hoa_syntax.specs.declared.raw_item.RawItem.{RawItem}
use Rattle.omega_hoa_automaton.specs.Items.{acceptance_in}
use Rattle.omega_hoa_automaton.proofs.judging.header.any_acceptance.Given as goal

abbrev pub invariant-loop-item : goal.invariant-loop-item
invariant-loop-item l = list_any (λ (item : RawItem). is_some (acceptance_in item)) (take l.item-index l.items) ≡ false
