-- What holds in the loop of `stated_count`: no item so far is an `AP:`.
use Rattle.std.proofs.Common.{◌≡◌, drop}
use Rattle.omega_hoa_automaton.specs.Items.{first_said, propositions_in}
use Rattle.omega_hoa_automaton.proofs.judging.propositions.stated_count.Given as goal

abbrev pub invariant-loop-item : goal.invariant-loop-item
invariant-loop-item l = first_said propositions_in (drop l.item-index l.items) ≡ first_said propositions_in l.items
