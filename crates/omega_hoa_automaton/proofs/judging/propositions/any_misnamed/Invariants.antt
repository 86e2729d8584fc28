-- What holds in the loop of `any_misnamed`: no item so far names propositions wrongly.
use Rattle.std.proofs.Common.{◌≡◌, false, take}
use Rattle.std.specs.List.{list_any}
use Rattle.omega_hoa_syntax.specs.declared.raw_item.RawItem.{RawItem}
use Rattle.omega_hoa_automaton.specs.Faults.{is_misnamed, passes}
use Rattle.omega_hoa_automaton.specs.Items.{propositions_in}
use Rattle.omega_hoa_automaton.proofs.judging.propositions.any_misnamed.Given as goal

abbrev pub invariant-loop-item : goal.invariant-loop-item
invariant-loop-item l = list_any (λ (item : RawItem). passes is_misnamed (propositions_in item)) (take l.item-index l.items) ≡ false
