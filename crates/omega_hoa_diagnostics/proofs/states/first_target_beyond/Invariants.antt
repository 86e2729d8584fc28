-- `first_target_beyond`: the first state is that of an edge that is left.
use Rattle.std.proofs.Common.{◌≡◌, drop}
use Rattle.omega_hoa_diagnostics.specs.Finding.{first_found}
use Rattle.omega_hoa_diagnostics.specs.States.{target_beyond}
use Rattle.omega_hoa_diagnostics.proofs.states.first_target_beyond.Given as goal

abbrev pub invariant-loop-at : goal.invariant-loop-at
invariant-loop-at l =
    first_found (target_beyond l.count l.source) (drop l.at l.edges) ≡ first_found (target_beyond l.count l.source) l.edges
