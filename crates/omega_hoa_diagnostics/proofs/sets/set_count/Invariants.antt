-- `set_count`: no item so far is an `Acceptance:`.
use Rattle.std.proofs.Common.{◌≡◌, drop}
use Rattle.omega_hoa_automaton.specs.Items.{acceptance_in, first_said}
use Rattle.omega_hoa_diagnostics.proofs.sets.set_count.Given as goal

abbrev pub invariant-loop-item : goal.invariant-loop-item
invariant-loop-item l = first_said acceptance_in (drop l.item-index l.items) ≡ first_said acceptance_in l.items
