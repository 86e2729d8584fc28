-- `first_mark_beyond`: the first mark is in a state that is left.
use Rattle.std.proofs.Common.{◌≡◌, drop}
use Rattle.omega_hoa_diagnostics.specs.Finding.{first_found}
use Rattle.omega_hoa_diagnostics.specs.Sets.{state_set_beyond}
use Rattle.omega_hoa_diagnostics.proofs.sets.first_mark_beyond.Given as goal

abbrev pub invariant-loop-state : goal.invariant-loop-state
invariant-loop-state l = first_found (state_set_beyond l.count) (drop l.state-index l.states) ≡ first_found (state_set_beyond l.count) l.states
