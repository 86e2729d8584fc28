-- What holds in the loop of `stated_count`: no item so far is a `States:`.
use Rattle.std.proofs.Common.{◌≡◌, drop}
use Rattle.omega_hoa_automaton.specs.Items.{first_said, states_in}
use Rattle.omega_hoa_automaton.proofs.judging.states.stated_count.Given as goal

abbrev pub invariant-loop-item : goal.invariant-loop-item
invariant-loop-item l = first_said states_in (drop l.item-index l.items) ≡ first_said states_in l.items
