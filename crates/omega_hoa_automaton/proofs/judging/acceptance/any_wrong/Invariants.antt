-- What holds in the loop of `any_wrong`: no acceptance so far has a wrong atom.
use Rattle.std.proofs.Common.{◌≡◌, false, is_none, take}
use Rattle.std.specs.List.{list_any}
use Rattle.omega_hoa_acceptance.specs.Meaning.{acc_meant}
use Rattle.omega_hoa_syntax.specs.declared.raw_item.RawItem.{RawItem}
use Rattle.omega_hoa_automaton.specs.Faults.{passes}
use Rattle.omega_hoa_automaton.specs.Items.{acceptance_in}
use Rattle.omega_hoa_automaton.proofs.judging.acceptance.any_wrong.Given as goal

abbrev pub invariant-loop-item : goal.invariant-loop-item
invariant-loop-item l = list_any (λ (item : RawItem). passes (λ accepted. is_none (acc_meant accepted.formula)) (acceptance_in item)) (take l.item-index l.items) ≡ false
