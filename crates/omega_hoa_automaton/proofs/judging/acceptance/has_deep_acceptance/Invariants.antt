-- What holds in the loop of `has_deep_acceptance`: no acceptance so far is too deep.
use Rattle.std.proofs.Common.{◌≡◌, false, nat_lt, take}
use Rattle.std.specs.List.{list_any}
use Rattle.omega_hoa_expression.specs.Limits.{most_depth}
use Rattle.omega_hoa_acceptance.specs.Raw.{raw_acc_depth}
use Rattle.omega_hoa_syntax.specs.declared.raw_item.RawItem.{RawItem}
use Rattle.omega_hoa_automaton.specs.Faults.{passes}
use Rattle.omega_hoa_automaton.specs.Items.{acceptance_in}
use Rattle.omega_hoa_automaton.proofs.judging.acceptance.has_deep_acceptance.Given as goal

abbrev pub invariant-loop-item : goal.invariant-loop-item
invariant-loop-item l = list_any (λ (item : RawItem). passes (λ accepted. nat_lt most_depth (raw_acc_depth accepted.formula)) (acceptance_in item)) (take l.item-index l.items) ≡ false
