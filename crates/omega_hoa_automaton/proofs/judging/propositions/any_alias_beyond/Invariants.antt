-- What holds in the loop of `any_alias_beyond`: no definition so far mentions a proposition
-- that is not below the count.
use Rattle.std.proofs.Common.{◌≡◌, false, take}
use Rattle.std.specs.List.{list_any}
use Rattle.omega_hoa_label_text.specs.Expanding.{Defined}
use Rattle.omega_hoa_syntax.specs.declared.raw_item.RawItem.{RawItem}
use Rattle.omega_hoa_automaton.specs.Faults.{is_beyond, passes}
use Rattle.omega_hoa_automaton.specs.Items.{alias_in}
use Rattle.omega_hoa_automaton.proofs.judging.propositions.any_alias_beyond.Given as goal

abbrev pub invariant-loop-item : goal.invariant-loop-item
invariant-loop-item l = list_any (λ (item : RawItem). passes (λ (defined : Defined). is_beyond l.count defined.body) (alias_in item)) (take l.item-index l.items) ≡ false
