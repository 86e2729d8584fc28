-- `first_in_body_beyond`: the first state is mentioned by one that is left.
use Rattle.std.proofs.Common.{◌≡◌, drop}
use Rattle.omega_hoa_diagnostics.specs.Finding.{first_found}
use Rattle.omega_hoa_diagnostics.specs.States.{state_beyond}
use Rattle.omega_hoa_diagnostics.proofs.states.first_in_body_beyond.Given as goal

abbrev pub invariant-loop-state : goal.invariant-loop-state
invariant-loop-state l = first_found (state_beyond l.count) (drop l.state-index l.states) ≡ first_found (state_beyond l.count) l.states
