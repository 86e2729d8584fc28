-- `first_start_beyond`: the first state is in an item that is left.
use Rattle.std.proofs.Common.{◌≡◌, drop}
use Rattle.omega_hoa_diagnostics.specs.Finding.{first_found}
use Rattle.omega_hoa_diagnostics.specs.States.{start_beyond}
use Rattle.omega_hoa_diagnostics.proofs.states.first_start_beyond.Given as goal

abbrev pub invariant-loop-item : goal.invariant-loop-item
invariant-loop-item l = first_found (start_beyond l.count) (drop l.item-index l.items) ≡ first_found (start_beyond l.count) l.items
