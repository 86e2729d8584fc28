-- What holds in the loop of `stated_count`: no item so far is an `Acceptance:`.
use Rattle.std.proofs.Common.{◌≡◌, drop}
use Rattle.omega_hoa_automaton.specs.Items.{first_said, acceptance_in}
use Rattle.omega_hoa_automaton.proofs.judging.sets.stated_count.Given as goal

abbrev pub invariant-loop-item : goal.invariant-loop-item
invariant-loop-item l = first_said acceptance_in (drop l.item-index l.items) ≡ first_said acceptance_in l.items
